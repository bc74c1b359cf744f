use Rattle.closed_trips.proofs.Common.{refl, subst, map, All, IsSend, Entry, view, StaysOrIsDelivered, StaysOrIsNotOpen}
use Rattle.closed_trips.specs.ClosedNames.{names_but}
use Rattle.closed_trips.proofs.ClosedLemmas.{state_of_calls}
use Rattle.closed_trips.proofs.closed.are_closed.Goals as goal

pub returns-in_ok-are_wagons_delivered : goal.returns-in_ok-are_wagons_delivered
returns-in_ok-are_wagons_delivered c =
    let history = c.args.hub.now in
    let names = names_but c.args.names.now in
    let same = state_of_calls history c.history_is_legal.ensures.legal in
    λ t. record {
      divided = c.if-are_messages_closed.ensures.divided refl;
      delivered = subst (λ s. All (StaysOrIsDelivered names) (view s)) same (c.in_ok-are_wagons_delivered.ensures t);
      not_open = subst (λ s. All (IsSend (StaysOrIsNotOpen names s)) (map (λ (e : Entry). e.call) history)) same (c.if-are_messages_closed.ensures.not_open refl);
    }
