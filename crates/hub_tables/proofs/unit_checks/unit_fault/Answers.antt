use Rattle.hub_tables.proofs.Common.{◌∙◌, sym, table_state}
use Rattle.hub_tables.proofs.UnitLoadLemmas.{past_one}
use Rattle.hub_tables.proofs.unit_checks.unit_fault.Goals as goal

pub loop-load-preserved : goal.loop-load-preserved
loop-load-preserved c =
    c.loop-load.invariant ∙
    past_one (table_state c.args.tables.now) c.args.units.now c.loop-load.load-index c.load-item.result c.loop-load-test.true c.load-item.is
    (sym c.is_unit_busy.ensures ∙ c.if-is_unit_busy.false)
