use Rattle.closed_trips.proofs.Common.{◌∙◌, refl, subst, All, take_all, state_of, records_of, StaysOrIsDelivered, arith}
use Rattle.closed_trips.specs.ClosedNames.{names_but}
use Rattle.closed_trips.proofs.ClosedLemmas.{records_up_to}
use Rattle.closed_trips.proofs.closed.are_wagons_delivered.Goals as goal

pub loop-i-preserved : goal.loop-i-preserved
loop-i-preserved c =
    let P = StaysOrIsDelivered (names_but c.args.names.now) in
    records_up_to P (state_of c.args.hub.now) c.loop-i.i c.loop-i.invariant (subst (All P) (c.records.ensures ∙ c.in_ok-part.ensures) (c.if-not-are_delivered.ensures refl))

pub returns : goal.returns
returns c =
    let s = state_of c.args.hub.now in
    λ t. subst (λ wagons. All (StaysOrIsDelivered (names_but c.args.names.now)) (records_of s wagons)) (take_all c.loop-i.i s.fleet (omega arith)) c.loop-i.invariant
