use Rattle.wimo.proofs.Common.{true, false, ap, sym, ◌∙◌, append-nil}
use Rattle.wimo.proofs.RecordEventLemmas.{units_more}
use Rattle.wimo.proofs.record.units_on.Goals as goal
use Rattle.wimo.proofs.record.units_on.Goals.{then-eq+in_ok-push, else-eq}

pub loop-loaded-preserved : goal.loop-loaded-preserved
loop-loaded-preserved c =
    let loads = c.args.loads.now in
    let i = c.loop-loaded.loaded-index in
    let more = units_more loads c.args.wagon i c.loaded-item.result c.loop-loaded-test.true c.loaded-item.is c.loop-loaded.units.items _ c.loop-loaded.invariant in
    elim c.if-eq.branch [
      | then-eq+in_ok-push w ↦ more true (sym w.if-eq.true ∙ c.eq.ensures) (ap (λ v. v.items) w.units-is ∙ w.in_ok-push.ensures.items)
      | else-eq w ↦ more false (sym w.if-eq.false ∙ c.eq.ensures) (ap (λ v. v.items) w.units-is ∙ sym (append-nil c.loop-loaded.units.items))
    ]
