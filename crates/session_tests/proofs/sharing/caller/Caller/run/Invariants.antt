use Rattle.std.proofs.Common.{◌≡◌}
use Rattle.session_tests.proofs.sharing.caller.Caller.run.Given as goal

-- the seat has the parts that it had
abbrev pub invariant-loop-line : goal.invariant-loop-line
invariant-loop-line g l = l.caller.seat.parts ≡ l.fn.self.seat.parts
