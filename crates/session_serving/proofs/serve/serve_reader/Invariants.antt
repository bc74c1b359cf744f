use Rattle.session_serving.proofs.Common.{◌≡◌, ◌≤◌, ◌-◌, [], false, vec_len, vec_capacity, max_kept, HasRoom, exchange_of}
use Rattle.session_serving.proofs.EndLemmas.{Progress}
use Rattle.session_serving.proofs.serve.serve_reader.Given as goal

abbrev pub invariant-loop-total : goal.invariant-loop-total
invariant-loop-total g l = record {
  progress : Progress (exchange_of l.initial.session (g.K.Sink.contents l.initial.writer) l.initial.buffers.out.items (g.P.Port.sent l.initial.port)) (exchange_of l.session (g.K.Sink.contents l.writer) l.buffers.out.items (g.P.Port.sent l.port)) (g.S.Source.remaining l.initial.reader) (g.S.Source.remaining l.reader) l.buffers.line.items l.total;
  reader : g.S.Source.failures l.reader ≡ g.S.Source.failures l.initial.reader;
  writer : g.K.Sink.failures l.writer ≡ g.K.Sink.failures l.initial.writer;
  port : g.P.Port.failures l.port ≡ g.P.Port.failures l.initial.port;
  session : g.P.Port.session l.port ≡ g.P.Port.session l.initial.port;
  id : l.session.id ≡ l.initial.session.id;
  sound : l.session.has_failed ≡ false;
  idle : l.session.slots ≡ [];
  written : l.buffers.out.items ≡ [];
  count : l.session.job_count ≤ l.total;
  bound : l.total ≤ 1099511627776;
  short : vec_len l.buffers.line ≤ max_kept;
  room : max_kept ≤ vec_capacity l.buffers.line;
  fits : HasRoom l.buffers.out;
}

abbrev pub decreases-loop-total : goal.decreases-loop-total
decreases-loop-total g l = 1099511627776 - l.total
