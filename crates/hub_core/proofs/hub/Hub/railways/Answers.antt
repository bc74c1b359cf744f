use Rattle.std.proofs.Common.{sym, subst, ap, ◌∙◌}
use Rattle.std.specs.Map.{keys_of}
use Rattle.hub_core.specs.Delivery.{HaveAllItems}
use Rattle.hub_core.proofs.Common.{state_of}
use Rattle.hub_core.proofs.ItemLemmas.{have_all_items, if_ok}
use Rattle.hub_core.proofs.hub.Hub.railways.Goals as goal

pub returns : goal.returns
returns c =
    let s = state_of c.self.inside.state.value.history.entries in
    rw (← c.self.view_is) (if_ok c.railways.result _ _ c.railways.ensures (λ v is. subst (λ keys. HaveAllItems keys s) (sym (is ∙ ap (λ b. keys_of b.outboxes) c.deref.ensures)) (have_all_items c.self.inside.state.value.outboxes s c.self.invariant.boxes)))
