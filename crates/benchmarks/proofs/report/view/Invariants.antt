use Rattle.std.proofs.Common.{◌≡◌, length}
use Rattle.benchmarks.proofs.report.view.Given as goal

abbrev pub invariant-loop : goal.invariant-loop
invariant-loop l = length l.records.items ≡ l.counter
