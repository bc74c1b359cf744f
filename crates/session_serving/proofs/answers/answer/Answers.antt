use Rattle.session_serving.proofs.Common.{◌∙◌, ap, length, arith, State, after_done-kept, after_done-fewer}
use Rattle.session_serving.proofs.EventLemmas.{done-advances}
use Rattle.session_serving.proofs.ServeLemmas.{says-line}
use Rattle.session_serving.proofs.answers.answer.Goals as goal

pub returns-clause-says : goal.returns-clause-says
returns-clause-says g c =
    let kept = after_done-kept c.args.session.now c.args.done in
    let after = c.take_back.ensures ∙ c.on_done-line.ensures.after in
    says-line _ _ _ _ c.on_done-line.result _ (done-advances _ _ c.args.done _ c.requires.job c.on_done-line.ensures.line after)
    (ap (λ (s : State). s.id) after ∙ kept.0) (ap (λ (s : State). s.job_count) after ∙ kept.1) c.put_line-put.ensures.writes

pub returns-clause-fewer : goal.returns-clause-fewer
returns-clause-fewer g c =
    let after = c.take_back.ensures ∙ c.on_done-line.ensures.after in
    omega (arith, ap (λ (s : State). length s.slots) after, after_done-fewer c.args.session.now c.args.done c.requires.job)
