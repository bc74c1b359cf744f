use Rattle.session_serving.proofs.Common.{arith, ap, length, ◌∙◌, true, false, refl, State}
use Rattle.session_serving.proofs.EventLemmas.{front-advances, front_fewer}
use Rattle.session_serving.proofs.ServeLemmas.{says-line, says-then, says_none}
use Rattle.session_serving.proofs.answers.put_held.Goals as goal

pub loop-line-init : goal.loop-line-init
loop-line-init g c = record {
  says = says_none _ _ true;
  kept = refl;
  sound = refl;
  fewer = omega arith;
  fits = c.requires.fits;
}

pub loop-line-preserved-in-Ok : goal.loop-line-preserved-in-Ok
loop-line-preserved-in-Ok g c =
    let i = c.loop-line.invariant in
    let after = c.in-Some.ensures.after in
    record {
      says = says-then _ _ _ _ _ _ true i.says (says-line _ _ _ _ c.in-Some.line true (front-advances _ _ c.in-Some.line c.in-Some.ensures.line after) (ap (λ (s : State). s.id) after) (ap (λ (s : State). s.job_count) after) c.in-Ok.ensures.writes);
      kept = c.in-Ok.ensures.failures.0 ∙ i.kept;
      sound = ap (λ (s : State). s.has_failed) after ∙ i.sound;
      fewer = omega (arith, ap (λ (s : State). length s.slots) after, front_fewer c.loop-line.session.slots, i.fewer);
      fits = c.in-Ok.ensures.fits;
    }

pub loop-line-preserved : goal.loop-line-preserved
loop-line-preserved g c =
    let i = c.loop-line.invariant in
    let after = c.in-Some.ensures.after in
    record {
      says = says-then _ _ _ _ _ _ true i.says (says-line _ _ _ _ c.in-Some.line true (front-advances _ _ c.in-Some.line c.in-Some.ensures.line after) (ap (λ (s : State). s.id) after) (ap (λ (s : State). s.job_count) after) c.in-Ok.ensures.writes);
      kept = c.in-Ok.ensures.failures.0 ∙ i.kept;
      sound = ap (λ (s : State). s.has_failed) after ∙ i.sound;
      fewer = omega (arith, ap (λ (s : State). length s.slots) after, front_fewer c.loop-line.session.slots, i.fewer);
      fits = c.in-Ok.ensures.fits;
    }

pub returns-in-Err-clause-says : goal.returns-in-Err-clause-says
returns-in-Err-clause-says g c =
    let i = c.loop-line.invariant in
    let after = c.in-Some.ensures.after in
    says-then _ _ _ _ _ _ false i.says (says-line _ _ _ _ c.in-Some.line false (front-advances _ _ c.in-Some.line c.in-Some.ensures.line after) (ap (λ (s : State). s.id) after) (ap (λ (s : State). s.job_count) after) c.in-Err.ensures.writes)
