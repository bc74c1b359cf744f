use Rattle.carried_hub.proofs.Common.{refl, subst, All, state_of, HasSameItems}
use Rattle.carried_hub.proofs.ItemLemmas.{same_for_all}
use Rattle.carried_hub.proofs.items.have_same_items.Goals as goal

pub returns : goal.returns
returns c =
    let s = state_of c.args.hub.now in
    let t = state_of c.args.other.now in
    λ same. same_for_all s t c.in_ok-railways.railways.items c.in_ok-others.others.items c.in_ok-railways.ensures c.in_ok-others.ensures
    (subst (All (HasSameItems s t)) c.deref.ensures.value (c.if-not-all_have_same_items.ensures refl)) (subst (All (HasSameItems s t)) c.deref-2.ensures.value (c.all_have_same_items-2.ensures same))
