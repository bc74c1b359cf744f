use Rattle.std.proofs.Common.{◌≡◌}
use Rattle.benchmarks.proofs.lanes.take_all.Given as goal

-- the pass is of the inbox
abbrev pub invariant-loop : goal.invariant-loop
invariant-loop g l = l.pass.inbox ≡ l.inbox.id
