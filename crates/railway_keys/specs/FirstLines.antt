-- The first line of some bytes that is not blank.
use Rattle.std.specs.Prelude.{ℕ, ◌==◌, Bool, true, false, List, [], ◌∷◌, ◌++◌, fold, Option, Some, None, if◌then◌else◌}
use Rattle.call_lines.specs.Lines.{is_blank}

-- what has come of it: its text, without its newline, and whether the newline has come
pub record LineRead : Type 0 where
  pub text : List ℕ
  pub is_whole : Bool

-- before the first byte, and behind blank lines
abbrev pub no_line : LineRead
no_line = record { text = []; is_whole = false }

-- at a newline a line is whole, unless it is blank
abbrev pub at_newline : List ℕ → LineRead
at_newline text = if is_blank text then no_line else record { text = text; is_whole = true }

-- with one byte more
abbrev pub with_byte : LineRead → ℕ → LineRead
with_byte line b =
    if line.is_whole then line
    else if b == 10 then at_newline line.text
    else record { text = line.text ++ b ∷ []; is_whole = false }

-- what comes of it by these bytes
abbrev pub line_read : List ℕ → LineRead
line_read bytes = fold with_byte no_line bytes

-- the line, if it is whole
abbrev pub whole_line : LineRead → Option (List ℕ)
whole_line line = if line.is_whole then Some line.text else None

-- the first line of these bytes that is not blank and ends in a newline
abbrev pub first_line : List ℕ → Option (List ℕ)
first_line bytes = whole_line (line_read bytes)
