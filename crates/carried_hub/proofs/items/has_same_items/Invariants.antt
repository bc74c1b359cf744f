use Rattle.carried_hub.proofs.Common.{◌≡◌, take, state_of, unacknowledged}
use Rattle.carried_hub.proofs.items.has_same_items.Given as goal

abbrev pub invariant-loop-i : goal.invariant-loop-i
invariant-loop-i l = take l.i (unacknowledged (state_of l.hub) l.railway) ≡ take l.i (unacknowledged (state_of l.other) l.railway)
