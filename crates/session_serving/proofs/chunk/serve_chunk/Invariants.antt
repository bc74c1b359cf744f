use Rattle.session_serving.proofs.Common.{◌≡◌, ◌≤◌, ◌+◌, ◌-◌, true, length, take, cut_after, HaveRoom, exchange_of, IsReady, Serves}
use Rattle.session_serving.proofs.chunk.serve_chunk.Given as goal

-- the lines before `from` were given
abbrev pub invariant-loop-end : goal.invariant-loop-end
invariant-loop-end g l = record {
  serves : Serves (exchange_of l.initial.session (g.K.Sink.contents l.initial.writer) l.initial.buffers.out.items (g.P.Port.sent l.initial.port)) (cut_after l.initial.buffers.line.items (take l.from l.chunk)).whole (exchange_of l.session (g.K.Sink.contents l.writer) l.buffers.out.items (g.P.Port.sent l.port)) true true;
  rest : l.buffers.line.items ≡ (cut_after l.initial.buffers.line.items (take l.from l.chunk)).rest;
  writer : g.K.Sink.failures l.writer ≡ g.K.Sink.failures l.initial.writer;
  port : g.P.Port.failures l.port ≡ g.P.Port.failures l.initial.port;
  session : g.P.Port.session l.port ≡ g.P.Port.session l.initial.port;
  id : l.session.id ≡ l.initial.session.id;
  count : l.session.job_count ≤ l.initial.session.job_count + l.from;
  ready : IsReady l.session;
  order : l.from ≤ length l.chunk;
  fits : HaveRoom l.buffers;
}

abbrev pub decreases-loop-end : goal.decreases-loop-end
decreases-loop-end g l = length l.chunk - l.from
