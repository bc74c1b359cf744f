-- How far the bytes of a file are read.
use Rattle.std.specs.Prelude.{ℕ, ◌==◌, List, [], ◌∷◌, ◌++◌, if◌then◌else◌}
use Rattle.journal.specs.Lines.{is_nil}

-- the lines of the whole batches, those of the batch that has begun, the line that has begun, and where the last whole batch ends
pub record ReadingState : Type 0 where
  pub lines : List (List ℕ)
  pub batch : List (List ℕ)
  pub line : List ℕ
  pub whole : ℕ

-- after one byte more, which is not 0; `next` is the index behind it
abbrev pub with_byte : ReadingState → ℕ → ℕ → ReadingState
with_byte s b next =
    if b == 10 then
    (if is_nil s.line then record { lines = s.lines ++ s.batch; batch = []; line = []; whole = next } else
    record { lines = s.lines; batch = s.batch ++ s.line ∷ []; line = []; whole = s.whole }) else
    record { lines = s.lines; batch = s.batch; line = s.line ++ b ∷ []; whole = s.whole }
