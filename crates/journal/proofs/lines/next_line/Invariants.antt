use Rattle.std.proofs.Common.{◌≡◌, ◌≤◌, ◌-◌, length, drop}
use Rattle.journal.specs.Lines.{text_lines}
use Rattle.journal.proofs.lines.next_line.Given as goal

-- all lines before `start` are empty
abbrev pub invariant-lines : goal.invariant-lines
invariant-lines l = record {
  order : l.fn.from ≤ l.start;
  within : l.start ≤ length l.text;
  same : text_lines (drop l.fn.from l.text) ≡ text_lines (drop l.start l.text);
}

abbrev pub decreases-lines : goal.decreases-lines
decreases-lines l = length l.text - l.start
