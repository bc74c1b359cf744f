use Rattle.outbox.proofs.Common.{◌≡◌, drop}
use Rattle.outbox.proofs.outbox.drop_front.Given as goal

abbrev pub invariant-loop-i : goal.invariant-loop-i
invariant-loop-i l = l.bodies.items ≡ drop l.i l.initial.bodies.items
