use Rattle.std.proofs.Common.{◌≤◌, ◌-◌, length}
use Rattle.journal.proofs.RunLemmas.{IsAtLine}
use Rattle.journal.proofs.found.find_batches.Given as goal

-- the lines before `from` are read
abbrev pub invariant-lines : goal.invariant-lines
invariant-lines l = record {
  within : l.from ≤ length l.counted;
  read : IsAtLine l.bytes l.from l.whole;
}

abbrev pub decreases-lines : goal.decreases-lines
decreases-lines l = length l.counted - l.from
