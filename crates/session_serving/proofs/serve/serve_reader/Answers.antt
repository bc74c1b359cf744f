use Rattle.session_serving.proofs.Common.{true, false, take, length, length-take-le, refl, ap, ◌∙◌, ◌<◌, Ok, Err, arith, rules, false≢true, Write}
use Rattle.session_serving.proofs.EndLemmas.{progress-start, progress-on, progress-stop, progress-end, progress-fails, progress-never, first-written, first-stops, ok_is_no_end, err_is_no_end, err_is_memory, first_fails}
use Rattle.session_serving.proofs.serve.serve_reader.Goals as goal

pub loop-total-init : goal.loop-total-init
loop-total-init g c = record {
  progress = progress-start _ _ _ c.requires.line.0;
  reader = refl;
  writer = refl;
  port = refl;
  session = refl;
  id = refl;
  sound = c.requires.sound;
  idle = c.requires.new.1;
  written = c.requires.out.0;
  count = omega (arith, c.requires.new.0);
  bound = omega arith;
  short = search (rules, arith);
  room = c.requires.line.1;
  fits = c.requires.out.1;
}

pub returns-in_default-clause-reads : goal.returns-in_default-clause-reads
returns-in_default-clause-reads g c = progress-fails _ _ _ _ _ _ _ c.loop-total.invariant.bound c.loop-total.invariant.progress c.in_default.ensures.bytes

pub returns-then-count-eq0-clause-reads : goal.returns-then-count-eq0-clause-reads
returns-then-count-eq0-clause-reads g c =
    let i = c.loop-total.invariant in
    let some : 0 < length c.read_more.new.room = search (rules, arith) in
    progress-end _ _ _ _ _ _ (take c.in-Ok.count c.read_more.new.room) _ (ap (λ n. take n c.read_more.new.room) c.if-count-eq0.true) (c.in-Ok.ensures.end c.if-count-eq0.true some) i.bound i.progress c.in-Ok.ensures.bytes.0

-- the chunk was served, and all that was said of it is written
pub returns-then-not-on-clause-reads : goal.returns-then-not-on-clause-reads
returns-then-not-on-clause-reads g c =
    let i = c.loop-total.invariant in
    let t = c.in-Ok-serve_chunk.ensures in
    let len = length-take-le c.in-Ok.count c.read_more.new.room c.in-Ok.ensures.bound in
    let fits = length-take-le c.min-most.result c.loop-total.room (omega arith) in
    let over = c.if-not-on.true in
    progress-stop _ _ _ _ _ _ _ (take c.in-Ok.count c.read_more.new.room) _ (Ok tt) _ over (λ _. t.idle.2 over) (ok_is_no_end _ refl) (omega (arith, len, fits, c.in-Ok.ensures.bound, c.read_more.auto.room)) i.progress c.in-Ok.ensures.bytes.0 (first-written _ _ _ _ _ true true _ t.serves c.in-Ok-write_out.ensures.writes)

-- it was served, and a write failed
pub returns-in_default-write_out-clause-reads : goal.returns-in_default-write_out-clause-reads
returns-in_default-write_out-clause-reads g c =
    let i = c.loop-total.invariant in
    let t = c.in-Ok-serve_chunk.ensures in
    let len = length-take-le c.in-Ok.count c.read_more.new.room c.in-Ok.ensures.bound in
    let fits = length-take-le c.min-most.result c.loop-total.room (omega arith) in
    progress-stop _ _ _ _ _ _ _ (take c.in-Ok.count c.read_more.new.room) _ (Err Write) false refl (λ e. absurd (false≢true e)) (err_is_no_end Write 0 1 0 0 _ (refl, refl) refl) (omega (arith, len, fits, c.in-Ok.ensures.bound, c.read_more.auto.room)) i.progress c.in-Ok.ensures.bytes.0 (first-stops _ _ _ _ _ false true _ t.serves c.in_default-write_out.ensures.writes)

pub returns-in-Err-clause-reads : goal.returns-in-Err-clause-reads
returns-in-Err-clause-reads g c =
    let i = c.loop-total.invariant in
    let len = length-take-le c.in-Ok.count c.read_more.new.room c.in-Ok.ensures.bound in
    let fits = length-take-le c.min-most.result c.loop-total.room (omega arith) in
    progress-stop _ _ _ _ _ _ _ (take c.in-Ok.count c.read_more.new.room) _ (Err c.in-Err.fault) false refl (λ e. absurd (false≢true e)) (err_is_no_end c.in-Err.fault _ _ _ _ _ c.in-Err.ensures.blames refl) (omega (arith, len, fits, c.in-Ok.ensures.bound, c.read_more.auto.room)) i.progress c.in-Ok.ensures.bytes.0 c.in-Err.ensures.serves

pub returns-in-Err-clause-fails : goal.returns-in-Err-clause-fails
returns-in-Err-clause-fails g c =
    let i = c.loop-total.invariant in
    first_fails c.in-Err.fault _ _ _ _ _ _ _ _ (c.in-Ok.ensures.failures.0 ∙ i.reader) i.writer i.port c.in-Err.ensures.blames

pub returns-in-Err-clause-memory : goal.returns-in-Err-clause-memory
returns-in-Err-clause-memory g c = err_is_memory c.in-Err.fault _ _ _ _ _ c.in-Err.ensures.blames refl

pub loop-total-preserved : goal.loop-total-preserved
loop-total-preserved g c =
    let i = c.loop-total.invariant in
    let t = c.in-Ok-serve_chunk.ensures in
    let w = c.in-Ok-write_out.ensures in
    let on = c.if-not-on.false in
    let len = length-take-le c.in-Ok.count c.read_more.new.room c.in-Ok.ensures.bound in
    let fits = length-take-le c.min-most.result c.loop-total.room (omega arith) in
    record {
      progress = progress-on _ _ _ _ _ _ c.loop-total.buffers.line.items (take c.in-Ok.count c.read_more.new.room) _ _ c.in-Ok.count _ len on i.progress c.in-Ok.ensures.bytes.0 (first-written _ _ _ _ _ true true _ t.serves w.writes) (t.rest on);
      reader = c.in-Ok.ensures.failures.0 ∙ i.reader;
      writer = w.failures.0 ∙ t.blames.0 ∙ i.writer;
      port = t.blames.1 ∙ i.port;
      session = t.mine.1 ∙ i.session;
      id = t.mine.0 ∙ i.id;
      sound = t.idle.1 on;
      idle = t.idle.0;
      written = w.empty;
      count = omega (arith, t.count, i.count, len);
      bound = omega (arith, fits, c.in-Ok.ensures.bound, c.read_more.auto.room);
      short = t.fits.0.0;
      room = t.fits.0.1;
      fits = w.fits;
    }

pub returns-clause-reads : goal.returns-clause-reads
returns-clause-reads g c =
    let i = c.loop-total.invariant in
    progress-never _ _ _ _ _ _ (omega (arith, i.bound, c.loop-total-test.false)) i.progress
