use Rattle.closed_trips.proofs.Common.{◌∙◌, sym, is_body_on}
use Rattle.closed_trips.proofs.SideLemmas.{on_one_side}
use Rattle.closed_trips.specs.ClosedNames.{names_but}
use Rattle.closed_trips.proofs.sides.is_on_one_side.Goals as goal

pub returns-clause-side : goal.returns-clause-side
returns-clause-side c =
    let names = names_but c.args.names.now in
    let side = c.keeps_message-side.ensures ∙ (λ j. names.message (c.by.ensures j) (c.no.ensures j)) in
    λ h. on_one_side names c.args.message.now (sym (c.is_body_on.ensures ∙ (λ i. is_body_on names (side i) (c.by-2.ensures i) (c.body.ensures i))) ∙ h)
