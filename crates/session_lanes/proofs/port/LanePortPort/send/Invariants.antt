use Rattle.session_lanes.proofs.Common.{◌≡◌}
use Rattle.session_lanes.proofs.port.LanePortPort.send.Given as goal

-- nothing has changed so far, and the job is the one that came
abbrev pub invariant-loop : goal.invariant-loop
invariant-loop g l =
    (l.self.failures ≡ l.fn.self.failures) × (l.self.session ≡ l.fn.self.session)
    × (l.self.pass ≡ l.fn.self.pass) × (l.job ≡ l.fn.job)
