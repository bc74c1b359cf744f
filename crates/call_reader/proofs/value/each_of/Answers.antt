use Rattle.call_reader.proofs.Common.{err_from_is_err_and}
use Rattle.call_reader.proofs.EachLemmas.{starts, goes_on, ends, is_done, fewer}
use Rattle.call_reader.proofs.value.each_of.Goals as goal

pub loop-value-init : goal.loop-value-init
loop-value-init g c = rw c.in_ok-items.ensures.items (starts _)

pub returns-in_err-item : goal.returns-in_err-item
returns-in_err-item g c =
    let p = err_from_is_err_and c.from_residual-in_err-item.result c.from_residual-in_err-item.ensures.1 in
    rw (p.1, p.2) (ends c.in_err-item.field-0.0 g.T.FromJson.good _ _ c.loop-value.items.items _ _ c.in-Some.ensures c.in_err-item.ensures c.loop-value.invariant)

pub loop-value-preserved : goal.loop-value-preserved
loop-value-preserved g c =
    rw c.in_ok-push.ensures.items (goes_on g.T.FromJson.good _ _ c.loop-value.items.items _ c.in_ok-item.item _ c.in-Some.ensures c.in_ok-item.ensures c.loop-value.invariant)

pub loop-value-smaller : goal.loop-value-smaller
loop-value-smaller g c = fewer _ _ _ c.in-Some.ensures

pub returns : goal.returns
returns g c = is_done g.T.FromJson.good _ c.loop-value.items.items _ c.in_default.ensures c.loop-value.invariant
