-- The bytes of a line.
use Rattle.std.specs.Prelude.{ℕ, List}
use Rattle.session_lines.specs.declared.line.LineText.{LineText}
use Rattle.session_lines.specs.declared.line.LineText.TheVariants.{Fixed, Written}
use Rattle.session_lines.specs.Texts.{line_fault_text}

-- a fixed text, or one that was written
abbrev pub line_bytes : LineText → List ℕ
line_bytes (Fixed fault) = line_fault_text fault
line_bytes (Written text) = text.items
