use Rattle.session_lanes.proofs.Common.{◌≡◌}
use Rattle.session_lanes.proofs.queues.JobQueue.take_soon.Given as goal

-- nothing was taken so far
abbrev pub invariant-loop : goal.invariant-loop
invariant-loop g l = l.pass ≡ l.fn.pass
