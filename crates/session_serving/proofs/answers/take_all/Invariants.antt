use Rattle.session_serving.proofs.Common.{◌≡◌, true, length, output_of, Says, HasRoom, IsReady}
use Rattle.session_serving.proofs.answers.take_all.Given as goal

abbrev pub invariant-loop-session : goal.invariant-loop-session
invariant-loop-session g l = record {
  says : Says l.initial.session (output_of (g.K.Sink.contents l.initial.writer) l.initial.out.items) l.session (output_of (g.K.Sink.contents l.writer) l.out.items) true;
  writer : g.K.Sink.failures l.writer ≡ g.K.Sink.failures l.initial.writer;
  port : g.P.Port.failures l.port ≡ g.P.Port.failures l.initial.port;
  session : g.P.Port.session l.port ≡ g.P.Port.session l.initial.port;
  sent : g.P.Port.sent l.port ≡ g.P.Port.sent l.initial.port;
  ready : IsReady l.session;
  fits : HasRoom l.out;
}

abbrev pub decreases-loop-session : goal.decreases-loop-session
decreases-loop-session g l = length l.session.slots
