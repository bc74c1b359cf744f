use Rattle.std.proofs.Common.{◌∷◌, [], ◌++◌, refl, subst, sym, ◌∙◌, ap, arith}
use Rattle.std.proofs.lemmas.List.{append-nil, append_assoc}
use Rattle.wimo_report.specs.Parts.{AreStarts}
use Rattle.wimo_report.proofs.report.starts_of.Goals as goal

pub starts-preserved : goal.starts-preserved
starts-preserved c = λ more h.
    let at = c.starts in
    let next = at.invariant (at.from ∷ more) (refl, h) in
    subst (AreStarts 0 c.args.count) (sym (ap (λ l. l ++ more) c.in_ok-push.ensures.items ∙ append_assoc at.starts.items (at.from ∷ []) more)) next

pub returns-then-count-from-le-PART : goal.returns-then-count-from-le-PART
returns-then-count-from-le-PART c =
    let at = c.starts in
    subst (AreStarts 0 c.args.count) (sym c.in_ok-push.ensures.items) (at.invariant (at.from ∷ []) (refl, omega arith))

pub returns : goal.returns
returns c =
    let at = c.starts in
    subst (AreStarts 0 c.args.count) (append-nil at.starts.items) (at.invariant [] (omega arith))
