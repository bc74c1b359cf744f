use Rattle.session_serving.proofs.Common.{true, false, refl, sym, ap, ◌∙◌, arith, Cut}
use Rattle.session_serving.proofs.CutLemmas.{chunk-cut, chunk-last}
use Rattle.session_serving.proofs.ServeLemmas.{serves_none, serves-says, chunk-on, chunk-stop, chunk-end}
use Rattle.session_serving.proofs.chunk.serve_chunk.Goals as goal

pub loop-end-init : goal.loop-end-init
loop-end-init g c = record {
  serves = serves_none _ true true;
  rest = refl;
  writer = refl;
  port = refl;
  session = refl;
  id = refl;
  count = omega arith;
  ready = c.requires.ready;
  order = omega arith;
  fits = c.requires.fits;
}

pub loop-end-preserved : goal.loop-end-preserved
loop-end-preserved g c =
    let i = c.loop-end.invariant in
    let t = c.in-Ok-true.ensures in
    let on = c.in-Ok-true.field-0-test in
    let cuts = c.in-Some.ensures.cut in
    record {
      serves = chunk-on _ _ _ _ c.args.chunk.now c.loop-end.buffers.line.items c.next_line.new.line.items c.loop-end.from c.in-Some.end _ i.rest cuts on i.serves t.serves;
      rest = t.rest on ∙ sym (ap (λ (d : Cut). d.rest) (chunk-cut _ c.args.chunk.now c.loop-end.buffers.line.items c.next_line.new.line.items c.loop-end.from c.in-Some.end i.rest cuts));
      writer = t.blames.0 ∙ i.writer;
      port = t.blames.1 ∙ i.port;
      session = t.mine.1 ∙ i.session;
      id = t.mine.0 ∙ i.id;
      count = omega (arith, t.count, i.count, cuts.0);
      ready = t.ready.0 on;
      order = cuts.1;
      fits = t.fits;
    }

pub returns-in-Ok-false-clause-serves : goal.returns-in-Ok-false-clause-serves
returns-in-Ok-false-clause-serves g c =
    let i = c.loop-end.invariant in
    chunk-stop _ _ _ _ c.args.chunk.now c.loop-end.buffers.line.items c.next_line.new.line.items c.loop-end.from c.in-Some.end true true _ i.rest c.in-Some.ensures.cut c.in-Ok-false.field-0-test i.serves c.in-Ok-false.ensures.serves

pub returns-in-Err-clause-serves : goal.returns-in-Err-clause-serves
returns-in-Err-clause-serves g c =
    let i = c.loop-end.invariant in
    chunk-stop _ _ _ _ c.args.chunk.now c.loop-end.buffers.line.items c.next_line.new.line.items c.loop-end.from c.in-Some.end _ _ false i.rest c.in-Some.ensures.cut refl i.serves c.in-Err.ensures.serves

pub returns-clause-serves : goal.returns-clause-serves
returns-clause-serves g c =
    let i = c.loop-end.invariant in
    chunk-end _ _ _ _ c.args.chunk.now c.loop-end.buffers.line.items c.next_line.new.line.items c.loop-end.from _ _ _ i.rest c.in_default.ensures.cut i.serves (serves-says _ _ _ _ _ _ _ _ c.take_all.ensures.port.1 c.take_all.ensures.says)

pub returns-clause-rest : goal.returns-clause-rest
returns-clause-rest g c =
    let i = c.loop-end.invariant in
    λ _. sym (ap (λ (d : Cut). d.rest) (chunk-last _ c.args.chunk.now c.loop-end.buffers.line.items c.next_line.new.line.items c.loop-end.from i.rest c.in_default.ensures.cut))
