use Rattle.carried_hub.proofs.Common.{refl, sym, state_of, unacknowledged}
use Rattle.carried_hub.proofs.ItemLemmas.{same_up_to}
use Rattle.carried_hub.proofs.items.has_same_items.Goals as goal

pub loop-i-preserved : goal.loop-i-preserved
loop-i-preserved c =
    let own = unacknowledged (state_of c.args.hub.now) c.args.railway in
    let other = unacknowledged (state_of c.args.other.now) c.args.railway in
    same_up_to own other c.loop-i.i c.in-Some.item.now c.in-Some-unacknowledged.other_item.now (sym c.in-Some.ensures) (sym c.in-Some-unacknowledged.ensures) (c.if-not-is_same_body.ensures.0 refl) c.loop-i.invariant
