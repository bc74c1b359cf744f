-- Lines in bytes, and lines as bytes.
use Rattle.std.specs.Prelude.{◌≡◌, ◌<◌, ◌≤◌, refl, ℕ, eqb, cond, List, [], ◌∷◌, ◌++◌, take, drop, length, fold, Option, Some, None}

-- the whole lines of some bytes, without their newlines, and what follows the last newline
pub record Cut : Type 0 where
  pub whole : List (List ℕ)
  pub rest : List ℕ

-- how many bytes of a line are kept: one more than a line may have, so that a longer one is still
-- known as too long
pub max_kept : ℕ
max_kept = 65537

pub max_kept_is : max_kept ≡ 65537
unfolding max_kept
max_kept_is = refl

-- a byte more: of a long line only the front is kept
abbrev pub add_byte : Cut → ℕ → Cut
add_byte c b =
    cond (eqb b 10)
    (record { whole = c.whole ++ c.rest ∷ []; rest = [] })
    (record { whole = c.whole; rest = take max_kept (c.rest ++ b ∷ []) })

-- bytes that follow the beginning of a line
abbrev pub cut_after : List ℕ → List ℕ → Cut
cut_after rest bytes = fold add_byte (record { whole = []; rest = rest }) bytes

-- the whole lines of some bytes
abbrev pub whole_lines : List ℕ → List (List ℕ)
whole_lines bytes = (cut_after [] bytes).whole

-- each line with its newline
abbrev pub text : List (List ℕ) → List ℕ
text [] = []
text (line ∷ lines) = (line ++ 10 ∷ []) ++ text lines

-- The next whole line of a chunk from a place on goes behind what was kept of it, and `end` is past
-- its newline; or there is none, and the rest of the chunk goes there.
abbrev pub CutsNext : List ℕ → List ℕ → ℕ → Option ℕ → List ℕ → Type 0
CutsNext old chunk from None new = cut_after old (drop from chunk) ≡ record { whole = []; rest = new }
CutsNext old chunk from (Some end) new =
    (from < end) × (end ≤ length chunk)
    × ((part : List ℕ) × (take end chunk ≡ take from chunk ++ part)
    × (cut_after old part ≡ record { whole = new ∷ []; rest = [] }))
