use Rattle.std.proofs.Common.{◌≡◌, ◌≤◌, ◌-◌, ◌++◌, length, drop}
use Rattle.std.specs.Prelude.{All, fold}
use Rattle.reply_writer.specs.Laws.{IsCall}
use Rattle.journal.specs.Lines.{text_lines}
use Rattle.journal_lines.specs.CallLines.{call_sum, lines_after}
use Rattle.journaled_hub.proofs.call_batch.read_calls.Given as goal

-- the calls of the lines before the index are read
abbrev pub invariant-lines : goal.invariant-lines
invariant-lines l = record {
  within : l.from ≤ length l.text;
  lines : text_lines l.text ≡ lines_after l.before l.calls.items ++ text_lines (drop l.from l.text);
  sum : l.sum ≡ fold call_sum l.before l.calls.items;
  limits : All IsCall l.calls.items;
}

abbrev pub decreases-lines : goal.decreases-lines
decreases-lines l = length l.text - l.from
