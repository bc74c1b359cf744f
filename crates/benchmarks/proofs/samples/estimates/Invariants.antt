use Rattle.std.proofs.Common.{◌≡◌, length}
use Rattle.benchmarks.proofs.samples.estimates.Given as goal

abbrev pub invariant-loop-before : goal.invariant-loop-before
invariant-loop-before l = length l.items.items ≡ l.before
