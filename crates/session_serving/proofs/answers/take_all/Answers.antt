use Rattle.session_serving.proofs.Common.{true, refl, ◌∙◌}
use Rattle.session_serving.proofs.ServeLemmas.{says-then, says_none}
use Rattle.session_serving.proofs.answers.take_all.Goals as goal

pub loop-session-init : goal.loop-session-init
loop-session-init g c = record {
  says = says_none _ _ true;
  writer = refl;
  port = refl;
  session = refl;
  sent = refl;
  ready = c.requires.ready;
  fits = c.requires.fits;
}

pub loop-session-preserved : goal.loop-session-preserved
loop-session-preserved g c =
    let i = c.loop-session.invariant in
    let t = c.in-Ok-true.ensures in
    record {
      says = says-then _ _ _ _ _ _ true i.says t.says;
      writer = t.blames.0 ∙ i.writer;
      port = t.blames.1 ∙ i.port;
      session = t.port.0 ∙ i.session;
      sent = t.port.1 ∙ i.sent;
      ready = t.ready.0 c.in-Ok-true.field-0-test;
      fits = t.fits;
    }

pub returns-in-Ok-false-clause-says : goal.returns-in-Ok-false-clause-says
returns-in-Ok-false-clause-says g c = says-then _ _ _ _ _ _ true c.loop-session.invariant.says c.in-Ok-false.ensures.says

pub returns-in-Err-clause-says : goal.returns-in-Err-clause-says
returns-in-Err-clause-says g c = says-then _ _ _ _ _ _ _ c.loop-session.invariant.says c.in-Err.ensures.says
