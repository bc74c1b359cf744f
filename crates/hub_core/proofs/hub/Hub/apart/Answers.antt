use Rattle.hub_core.proofs.Common.{◌∙◌, is_apart, table_state}
use Rattle.hub_core.proofs.hub.Hub.apart.Goals as goal

pub returns-in-Send-Send : goal.returns-in-Send-Send
returns-in-Send-Send c =
    rw (c.in-Send-Send.is-0, c.in-Send-Send.is-1, ← c.self.view_is) (c.apart.ensures ∙ (λ i. is_apart (table_state (c.deref-state.ensures i).tables) (c.get.ensures i) (c.get-in-Send-Send.ensures i)) ∙ (λ i. is_apart (c.self.invariant.tables i) (c.get.ensures 1) (c.get-in-Send-Send.ensures 1)))
