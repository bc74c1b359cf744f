-- What the bytes of a journal stand for.
use Rattle.std.specs.Prelude.{◌≡◌, ◌≢◌, ℕ, ◌+◌, ◌<◌, ◌≤◌, ◌==◌, ◌&&◌, not, Bool, true, false, List, [], ◌∷◌, ◌++◌, length, take, drop, slice_index, if◌then◌else◌}
use Rattle.std.specs.List.{list_all}

-- whether a list is empty
abbrev pub is_nil : {A : Type 0} → List A → Bool
is_nil [] = true
is_nil (x ∷ xs) = false

-- ---- lines and batches

-- a line: it is not empty, and has no byte 0 and no newline
abbrev pub is_line : List ℕ → Bool
is_line line = not (is_nil line) && list_all (λ b. not (b == 0) && not (b == 10)) line

-- all of them are lines
abbrev pub are_lines : List (List ℕ) → Bool
are_lines lines = list_all is_line lines

-- the lines, each with its newline
abbrev pub lines_text : List (List ℕ) → List ℕ
lines_text [] = []
lines_text (line ∷ lines) = line ++ 10 ∷ lines_text lines

-- a batch: its lines, and then an empty line
abbrev pub batch_text : List (List ℕ) → List ℕ
batch_text lines = lines_text lines ++ 10 ∷ []

-- the text is these lines, each with its newline
pub record IsLinesText (text : List ℕ) (lines : List (List ℕ)) : Type 0 where
  pub text_is : text ≡ lines_text lines
  pub are : are_lines lines ≡ true

-- the same, with so many bytes, and room for one more where there are any
pub record IsBatch (text : List ℕ) (lines : List (List ℕ)) (len capacity : ℕ) : Type 0 where
  pub spells : IsLinesText text lines
  pub room : 0 < len → len + 1 ≤ capacity

-- the last of the lines has so many bytes
pub record HasLast (lines : List (List ℕ)) (len : ℕ) : Type 0 where
  pub front : List (List ℕ)
  pub last : List ℕ
  pub split : lines ≡ front ++ last ∷ []
  pub size : length last ≡ len

-- ---- the lines of a text

-- The lines of a text that are not empty, where `line` has begun. Each ends with a newline, which is no part of it.
unfoldable pub lines_on : List ℕ → List ℕ → List (List ℕ)
lines_on line [] = []
lines_on line (b ∷ text) =
    if b == 10 then (if is_nil line then lines_on [] text else line ∷ lines_on [] text) else lines_on (line ++ b ∷ []) text

-- the lines of a text that are not empty
abbrev pub text_lines : List ℕ → List (List ℕ)
text_lines text = lines_on [] text

-- no newline stands from the index up to the end
abbrev pub HasNoNewline : List ℕ → ℕ → ℕ → Type 0
HasNoNewline bytes from end = (k : ℕ) → from ≤ k → k < end → slice_index bytes k ≢ 10

-- a newline stands at the end, and none from the index up to it
pub record IsNextNewline (bytes : List ℕ) (from end : ℕ) : Type 0 where
  pub order : from ≤ end
  pub within : end < length bytes
  pub newline : slice_index bytes end ≡ 10
  pub before : HasNoNewline bytes from end

-- ---- what bytes stand for

-- The lines of the whole batches, where `line` has begun and the lines of `batch` came before it in its batch. No line has a byte
-- 0: a crash left it, and what is behind it does not count.
unfoldable pub read_on : List ℕ → List (List ℕ) → List ℕ → List (List ℕ)
read_on line batch [] = []
read_on line batch (b ∷ bytes) =
    if b == 0 then [] else
    (if b == 10 then (if is_nil line then batch ++ read_on [] [] bytes else read_on [] (batch ++ line ∷ []) bytes) else
    read_on (line ++ b ∷ []) batch bytes)

-- the lines of the whole batches
abbrev pub recovered_lines : List ℕ → List (List ℕ)
recovered_lines bytes = read_on [] [] bytes

-- whole batches of these lines, whatever follows them
pub record AreWhole (bytes : List ℕ) (lines : List (List ℕ)) : Type 0 where
  pub stand_for : (more : List ℕ) → recovered_lines (bytes ++ more) ≡ lines ++ recovered_lines more

-- no batch ends within the bytes, but at their end; `empty` tells whether the line that has begun has no byte yet
unfoldable pub is_torn : Bool → List ℕ → Bool
is_torn empty [] = true
is_torn empty (b ∷ bytes) = if b == 10 then (if empty then is_nil bytes else is_torn true bytes) else is_torn false bytes

-- Whole batches of these lines, up to the index, and behind it nothing that counts. `torn` tells whether what is behind it may be
-- a torn end: what is left of one batch that was not acknowledged.
pub record HasWholeBatches (bytes : List ℕ) (lines : List (List ℕ)) (whole : ℕ) (torn : Bool) : Type 0 where
  pub within : whole ≤ length bytes
  pub front : AreWhole (take whole bytes) lines
  pub nothing : recovered_lines (drop whole bytes) ≡ []
  pub rest : torn ≡ is_torn true (drop whole bytes)

-- the bytes stand for these lines, and may be what a crash left
abbrev pub StandsFor : List ℕ → List (List ℕ) → Type 0
StandsFor bytes lines = (whole : ℕ) × HasWholeBatches bytes lines whole true

-- no crash leaves the bytes, whatever lines were acknowledged
abbrev pub IsNeverLeft : List ℕ → Type 0
IsNeverLeft bytes = (lines : List (List ℕ)) → StandsFor bytes lines → ⊥
