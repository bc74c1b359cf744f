-- Where the lines of bytes begin and end.
use Rattle.std.specs.Prelude.{◌≡◌, ℕ, ◌==◌, Bool, true, false, List, [], ◌∷◌, ◌++◌, map, if◌then◌else◌}
use Rattle.call_lines.specs.declared.parsed.ParsedLine.{ParsedLine}
use Rattle.call_lines.specs.Lines.{parsed_line, has_no_newline}

-- a byte goes onto the first of the lines, or begins one
abbrev pub onto_first : ℕ → List (List ℕ) → List (List ℕ)
onto_first b [] = (b ∷ []) ∷ []
onto_first b (line ∷ lines) = (b ∷ line) ∷ lines

-- a line ends with a newline, which is no part of it; a last one without newline counts if it has a byte
abbrev pub lines_of : List ℕ → List (List ℕ)
lines_of [] = []
lines_of (b ∷ bytes) = if b == 10 then [] ∷ lines_of bytes else onto_first b (lines_of bytes)

-- what the lines of the bytes say
abbrev pub parsed_lines : List ℕ → List ParsedLine
parsed_lines bytes = map parsed_line (lines_of bytes)

-- what follows the first newline
abbrev pub after_newline : List ℕ → List ℕ
after_newline [] = []
after_newline (b ∷ bytes) = if b == 10 then bytes else after_newline bytes

-- the bytes that count, where the rest of a line that is too long is skipped
abbrev pub after_skipping : Bool → List ℕ → List ℕ
after_skipping true bytes = after_newline bytes
after_skipping false bytes = bytes

-- The lines of the bytes say these things, up to the last newline or the end of a line that is too long. What is
-- kept is the beginning of a line, or nothing where the rest of a line is skipped.
pub record IsCut (bytes : List ℕ) (skipping : Bool) (lines : List ParsedLine) (skips : Bool) (kept : List ℕ) : Type 0 where
  pub whole : has_no_newline kept ≡ true
  pub bare : skips ≡ true → kept ≡ []
  pub says : (more : List ℕ) → parsed_lines (after_skipping skipping (bytes ++ more)) ≡ lines ++ parsed_lines (after_skipping skips (kept ++ more))

-- These bytes say these things, and then what those bytes say, whatever follows.
pub record IsTaken (bytes : List ℕ) (lines : List ParsedLine) (rest : List ℕ) : Type 0 where
  pub says : (more : List ℕ) → parsed_lines (bytes ++ more) ≡ lines ++ parsed_lines (rest ++ more)
