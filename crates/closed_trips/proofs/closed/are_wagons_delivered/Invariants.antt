use Rattle.closed_trips.proofs.Common.{take, All, state_of, records_of, StaysOrIsDelivered}
use Rattle.closed_trips.specs.ClosedNames.{names_but}
use Rattle.closed_trips.proofs.closed.are_wagons_delivered.Given as goal

abbrev pub invariant-loop-i : goal.invariant-loop-i
invariant-loop-i l =
    let s = state_of l.hub in
    All (StaysOrIsDelivered (names_but l.names)) (records_of s (take l.i s.fleet))
