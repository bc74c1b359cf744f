use Rattle.closed_trips.proofs.Common.{map, take, All, IsSend, Entry, state_of, Divide, StaysOrIsNotOpen}
use Rattle.closed_trips.specs.ClosedNames.{names_but}
use Rattle.closed_trips.proofs.closed.are_messages_closed.Given as goal

abbrev pub invariant-loop-i : goal.invariant-loop-i
invariant-loop-i l =
    let calls = take l.i (map (λ (e : Entry). e.call) l.hub) in
    record {
      divided : Divide (names_but l.names) calls;
      not_open : All (IsSend (StaysOrIsNotOpen (names_but l.names) (state_of l.hub))) calls;
    }
