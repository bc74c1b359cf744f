use Rattle.session_serving.proofs.Common.{rules, arith, refl, inl, inr, ◌∙◌}
use Rattle.session_serving.proofs.EventLemmas.{discards_none, discards_then}
use Rattle.session_serving.proofs.ending.drop_all.Goals as goal

pub loop-port-init : goal.loop-port-init
loop-port-init g c = record { discards = discards_none _; port = refl; session = refl; sent = refl }

pub loop-port-preserved : goal.loop-port-preserved
loop-port-preserved g c =
    let i = c.loop-port.invariant in
    let d = c.drop_front.ensures in
    record {
      discards = discards_then _ _ _ i.discards d.discards;
      port = search (rules, arith);
      session = d.port.0 ∙ i.session;
      sent = d.port.1 ∙ i.sent;
    }

pub returns-then-not-drop_front-clause-discards : goal.returns-then-not-drop_front-clause-discards
returns-then-not-drop_front-clause-discards g c = discards_then _ _ _ c.loop-port.invariant.discards c.drop_front.ensures.discards

pub returns-then-not-drop_front-clause-emptied : goal.returns-then-not-drop_front-clause-emptied
returns-then-not-drop_front-clause-emptied g c = inr (search (rules, arith))

pub returns-clause-emptied : goal.returns-clause-emptied
returns-clause-emptied g c = inl (c.loop-port.invariant.port, search rules)
