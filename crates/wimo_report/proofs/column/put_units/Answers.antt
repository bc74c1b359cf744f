use Rattle.wimo_report.proofs.JoinLemmas.{with_units}
use Rattle.wimo_report.proofs.column.put_units.Goals as goal

pub returns : goal.returns
returns c = with_units _ _ _ _ _ c.in-Some.others.now _ c.loop-unit.unit-index c.in_ok-put.ensures c.as_str.ensures.text c.loop-unit.invariant c.loop-unit-test.false c.in-Some.ensures.cases.0
