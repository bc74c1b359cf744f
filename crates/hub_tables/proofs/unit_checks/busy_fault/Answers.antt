use Rattle.hub_tables.proofs.Common.{◌∙◌, sym, ap, Some, None, find, is_busy, table_state, unit_fault}
use Rattle.hub_tables.proofs.CheckLemmas.{plan_fault}
use Rattle.hub_tables.proofs.unit_checks.busy_fault.Goals as goal

pub returns-in-Some : goal.returns-in-Some
returns-in-Some c =
    let s = table_state c.args.tables.now in
    plan_fault s c.args.message.now c.requires.whole _ c.requires.plan (Some c.in-Some.wagon) (sym c.in-Some.is ∙ c.first_busy.ensures ∙ ap (find (λ w. is_busy (s.journey w))) c.wagons.ensures.value)

pub returns-in-None : goal.returns-in-None
returns-in-None c =
    let s = table_state c.args.tables.now in
    plan_fault s c.args.message.now c.requires.whole _ c.requires.plan None (sym c.in-None.is ∙ c.first_busy.ensures ∙ ap (find (λ w. is_busy (s.journey w))) c.wagons.ensures.value) ∙
    ap (unit_fault s) (sym c.units.ensures) ∙ sym c.unit_fault.ensures
