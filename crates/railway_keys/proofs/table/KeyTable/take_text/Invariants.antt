use Rattle.std.proofs.Common.{◌≡◌, ◌+◌, ◌≤◌, length}
use denote.Shadow.{shadow}
use denote.Text.{Utf8}
use Rattle.railway_keys.specs.KeyFiles.{lines_of, table_of}
use Rattle.railway_keys.proofs.table.KeyTable.take_text.Given as goal

abbrev pub invariant-loop-line : goal.invariant-loop-line
invariant-loop-line l = record {
  text : shadow (Utf8 l.rest);
  made : table_of l.initial.self 1 (lines_of l.fn.text) ≡ table_of l.self l.number (lines_of l.rest);
  few : l.number + length l.rest ≤ length l.fn.text + 1;
}

abbrev pub decreases-loop-line : goal.decreases-loop-line
decreases-loop-line l = length l.rest
