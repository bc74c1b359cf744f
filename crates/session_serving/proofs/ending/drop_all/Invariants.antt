use Rattle.session_serving.proofs.Common.{◌≡◌, length, Discards}
use Rattle.session_serving.proofs.ending.drop_all.Given as goal

abbrev pub invariant-loop-port : goal.invariant-loop-port
invariant-loop-port g l = record {
  discards : Discards l.initial.session l.session;
  port : g.P.Port.failures l.port ≡ g.P.Port.failures l.initial.port;
  session : g.P.Port.session l.port ≡ g.P.Port.session l.initial.port;
  sent : g.P.Port.sent l.port ≡ g.P.Port.sent l.initial.port;
}

abbrev pub decreases-loop-port : goal.decreases-loop-port
decreases-loop-port g l = length l.session.slots
