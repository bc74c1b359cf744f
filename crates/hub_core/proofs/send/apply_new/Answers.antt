use Rattle.hub_core.proofs.Common.{◌∙◌, ap, sym, subst, fault, HubState, table_state, OpenIsOffered, IsAcceptable, IsTaken, KeepsCalendar, or_none_left, or_none_right}
use Rattle.hub_core.proofs.SendLemmas.{acceptable}
use Rattle.hub_core.proofs.send.apply_new.Goals as goal

pub take-requires-clause-offered : goal.take-requires-clause-offered
take-requires-clause-offered c =
    let kept = c.requires.ready.0 in
    subst OpenIsOffered (sym kept.tables) (c.offers_are_in_order.ensures _ kept.legal).offered

pub take-requires-clause-calendar : goal.take-requires-clause-calendar
take-requires-clause-calendar c =
    let kept = c.requires.ready.0 in
    let m = c.args.message in
    subst (KeepsCalendar (table_state c.args.state.now.tables)) (sym c.get.ensures) (subst (λ (t : HubState). KeepsCalendar t m) (sym kept.tables)
    (λ goes w named none. c.estimates_fit.ensures.checks _ kept.legal kept.dated m c.requires.new.1.0 w (or_none_left _ _ none) (or_none_right _ _ none)))

pub accept-requires-clause-acceptable : goal.accept-requires-clause-acceptable
accept-requires-clause-acceptable c =
    let b = c.args.state.now in
    let taken = subst (IsTaken b.tables c.take.new.self c.get.result.now c.take.new.changes.items) c.in-None.is c.in_ok-take.ensures.ok in
    subst (λ (s : HubState). IsAcceptable s c.args.message) (sym taken.1.before)
    (acceptable c.requires.ready.0 c.requires.ready.1 c.args.message c.requires.new.1 c.requires.new.0 c.estimates_fit.ensures.histories c.boxes_keep_the_lists.ensures.push (ap (fault (table_state b.tables)) (sym c.get.ensures) ∙ taken.0))
