use Rattle.hub_replay.proofs.Common.{◌≡◌, ◌+◌, ◌≤◌, ◌++◌, [], ap, sym, ◌∙◌, refl, arith, append-nil, take, length, length-append, List, ℕ, common_steps, slice_range, parsed_lines, line_total, length-take-le}
use Rattle.hub_replay.proofs.StreamLemmas.{Consumes-none, Consumes-append}
use Rattle.hub_replay.proofs.LineLemmas.{IsCut-none, IsCut-more, parsed_all, parsed_more, chunk_split, length-chunk, nothing_kept, nothing_more, rest_kept}
use Rattle.hub_replay.proofs.RunLemmas.{Advances-none, Advances-append, StopsWithin-here, StopsWithin-after, StopsWithin-more, StopsWithin-as, stopped, ended, late}
use Rattle.hub_replay.proofs.CountLemmas.{counts_lines, counts_calls, counts_sum}
use Rattle.hub_replay.proofs.replay.run.Goals as goal

pub returns-in_default-clause-err : goal.returns-in_default-clause-err
returns-in_default-clause-err g c =
    let s = stopped (parsed_lines []) c.new-output.ensures.pending c.new-output.ensures.counts (StopsWithin-here _ c.args.hub.now c.new-output.result _) in
    ([], s.0, Consumes-none _, s.1, s.2, (refl, refl, omega arith))

pub chunks-init : goal.chunks-init
chunks-init g c = (
  omega arith,
  c.as_mut_slice-buffer.ensures.len ∙ c.in-Ok.ensures.len,
  omega arith,
  omega (arith, ap line_total c.new-output.ensures.counts),
  refl,
  refl,
  ([], [], refl, Consumes-none _, IsCut-none, Advances-none _ c.args.hub.now c.new-output.result),
)

pub answer_chunk-requires-clause-bare : goal.answer_chunk-requires-clause-bare
answer_chunk-requires-clause-bare g c =
    let i = c.chunks.invariant in
    λ e. nothing_kept c.chunks.buffer c.chunks.kept_len (omega (arith, i.0, i.1)) (i.6.4.bare e)

pub returns-in-Err-clause-err : goal.returns-in-Err-clause-err
returns-in-Err-clause-err g c =
    let i = c.chunks.invariant in
    let r = i.6 in
    let all = parsed_all r.0 (take c.chunks.kept_len c.chunks.buffer) r.1 c.chunks.skipping r.4 in
    let stop = StopsWithin-more (parsed_lines (take c.chunks.kept_len c.chunks.buffer)) (rw (append-nil r.1) at (StopsWithin-after r.5 (c.in-Err.ensures.answers c.chunks.hub))) in
    let s = stopped (parsed_lines r.0) c.new-output.ensures.pending c.new-output.ensures.counts (StopsWithin-as all stop) in
    (r.0, s.0, r.3, s.1, s.2, late c.in-Err.fault _ _ _ _ _ (length r.0) c.in-Err.ensures.blames i.4 i.5 (omega (arith, r.2, i.2)))

pub returns-in-Err-read_chunk-clause-err : goal.returns-in-Err-read_chunk-clause-err
returns-in-Err-read_chunk-clause-err g c =
    let i = c.chunks.invariant in
    let r = i.6 in
    let f = c.in-Err-read_chunk.ensures in
    let advances = rw (append-nil r.1) at (Advances-append r.5 (c.in_default-flush.ensures.answers c.chunks.hub)) in
    let all = parsed_all r.0 (take c.chunks.kept_len c.chunks.buffer) r.1 c.chunks.skipping r.4 in
    let s = stopped (parsed_lines r.0) c.new-output.ensures.pending c.new-output.ensures.counts (StopsWithin-as all (StopsWithin-after advances (StopsWithin-here _ _ _ (parsed_lines (take c.chunks.kept_len c.chunks.buffer))))) in
    let used = rw (append-nil r.0) at (Consumes-append _ _ _ r.0 [] r.3 f.nothing) in
    (r.0, s.0, used, s.1, s.2, rw (f.fault.0) (omega (arith, f.fault.1, i.4), c.in_default-flush.ensures.blames ∙ i.5, omega (arith, r.2, c.chunks-test.true)))

pub returns-clause-err : goal.returns-clause-err
returns-clause-err g c =
    let i = c.chunks.invariant in
    let r = i.6 in
    let all = parsed_all r.0 (take c.chunks.kept_len c.chunks.buffer) r.1 c.chunks.skipping r.4 in
    let s = stopped (parsed_lines r.0) c.new-output.ensures.pending c.new-output.ensures.counts (StopsWithin-as all (StopsWithin-after r.5 (StopsWithin-here _ _ _ (parsed_lines (take c.chunks.kept_len c.chunks.buffer))))) in
    (r.0, s.0, r.3, s.1, s.2, (i.4, i.5, omega (arith, r.2, i.2, c.chunks-test.false)))

pub returns-then-count-eq0-clause-ok : goal.returns-then-count-eq0-clause-ok
returns-then-count-eq0-clause-ok g c =
    let i = c.chunks.invariant in
    let r = i.6 in
    let p = c.in-Ok-read_chunk.ensures in
    let f = c.in-Ok-finish.ensures in
    let advances = rw (append-nil r.1) at (Advances-append r.5 (c.in_default-flush.ensures.answers c.chunks.hub)) in
    let all : parsed_lines r.0 ≡ r.1 ++ parsed_lines (take c.chunks.kept_len c.read_chunk.new.buffer) = parsed_all r.0 (take c.chunks.kept_len c.chunks.buffer) r.1 c.chunks.skipping r.4 ∙ ap (λ l. r.1 ++ parsed_lines l) (sym p.kept) in
    let none : length (slice_range c.read_chunk.new.buffer c.chunks.kept_len (c.chunks.kept_len + c.in-Ok-read_chunk.count)) ≡ 0 = length-chunk c.read_chunk.new.buffer c.chunks.kept_len c.in-Ok-read_chunk.count (omega (arith, i.0, i.1, p.bounds.0, c.read_chunk.auto.buffer)) ∙ c.if-count-eq0.true in
    let used = rw (nothing_more r.0 _ none) at (Consumes-append _ _ _ r.0 _ r.3 p.bytes) in
    let s = ended r.0 _ c.in-Ok-finish.counts c.new-output.ensures.pending c.new-output.ensures.counts f.empty f.counts all (Advances-append advances f.answers) in
    (r.0, s.0, used, p.end c.if-count-eq0.true, s.1, s.2)

pub returns-then-count-eq0-clause-lines : goal.returns-then-count-eq0-clause-lines
returns-then-count-eq0-clause-lines g c =
    let a = returns-then-count-eq0-clause-ok g c in
    (a.0, a.2, counts_lines _ a.0 _ a.1 _ a.5)

pub returns-then-count-eq0-clause-calls : goal.returns-then-count-eq0-clause-calls
returns-then-count-eq0-clause-calls g c =
    let a = returns-then-count-eq0-clause-ok g c in
    counts_calls _ a.0 _ a.1 _ a.5

pub returns-then-count-eq0-clause-faults : goal.returns-then-count-eq0-clause-faults
returns-then-count-eq0-clause-faults g c =
    let a = returns-then-count-eq0-clause-ok g c in
    counts_sum _ a.0 _ a.1 _ a.5

pub returns-then-count-eq0-clause-kept : goal.returns-then-count-eq0-clause-kept
returns-then-count-eq0-clause-kept g c =
    let i = c.chunks.invariant in
    (c.in-Ok-read_chunk.ensures.same ∙ i.4, c.in-Ok-finish.ensures.blames ∙ c.in_default-flush.ensures.blames ∙ i.5)

pub returns-in-Err-finish-clause-err : goal.returns-in-Err-finish-clause-err
returns-in-Err-finish-clause-err g c =
    let i = c.chunks.invariant in
    let r = i.6 in
    let p = c.in-Ok-read_chunk.ensures in
    let f = c.in-Err-finish.ensures in
    let advances = rw (append-nil r.1) at (Advances-append r.5 (c.in_default-flush.ensures.answers c.chunks.hub)) in
    let all : parsed_lines r.0 ≡ r.1 ++ parsed_lines (take c.chunks.kept_len c.read_chunk.new.buffer) = parsed_all r.0 (take c.chunks.kept_len c.chunks.buffer) r.1 c.chunks.skipping r.4 ∙ ap (λ l. r.1 ++ parsed_lines l) (sym p.kept) in
    let none : length (slice_range c.read_chunk.new.buffer c.chunks.kept_len (c.chunks.kept_len + c.in-Ok-read_chunk.count)) ≡ 0 = length-chunk c.read_chunk.new.buffer c.chunks.kept_len c.in-Ok-read_chunk.count (omega (arith, i.0, i.1, p.bounds.0, c.read_chunk.auto.buffer)) ∙ c.if-count-eq0.true in
    let used = rw (nothing_more r.0 _ none) at (Consumes-append _ _ _ r.0 _ r.3 p.bytes) in
    let s = stopped (parsed_lines r.0) c.new-output.ensures.pending c.new-output.ensures.counts (StopsWithin-as all (StopsWithin-after advances f.answers)) in
    (r.0, s.0, used, s.1, s.2, late c.in-Err-finish.fault _ _ _ _ _ (length r.0) f.blames (p.same ∙ i.4) (c.in_default-flush.ensures.blames ∙ i.5) (omega (arith, r.2, i.2)))

pub returns-in-Err-answer_chunk-clause-err : goal.returns-in-Err-answer_chunk-clause-err
returns-in-Err-answer_chunk-clause-err g c =
    let i = c.chunks.invariant in
    let r = i.6 in
    let p = c.in-Ok-read_chunk.ensures in
    let f = c.in-Err-answer_chunk.ensures in
    let new : List ℕ = slice_range c.read_chunk.new.buffer c.chunks.kept_len (c.chunks.kept_len + c.in-Ok-read_chunk.count) in
    let advances = rw (append-nil r.1) at (Advances-append r.5 (c.in_default-flush.ensures.answers c.chunks.hub)) in
    let chunk : take (c.chunks.kept_len + c.in-Ok-read_chunk.count) c.read_chunk.new.buffer ≡ take c.chunks.kept_len c.chunks.buffer ++ new = chunk_split c.read_chunk.new.buffer c.chunks.kept_len c.in-Ok-read_chunk.count ∙ ap (λ l. l ++ new) p.kept in
    let size : length new ≡ c.in-Ok-read_chunk.count = length-chunk c.read_chunk.new.buffer c.chunks.kept_len c.in-Ok-read_chunk.count (omega (arith, i.0, i.1, p.bounds.0, c.read_chunk.auto.buffer)) in
    let all = parsed_more r.0 (take c.chunks.kept_len c.chunks.buffer) new _ r.1 c.chunks.skipping r.4 chunk in
    let s = stopped (parsed_lines (r.0 ++ new)) c.new-output.ensures.pending c.new-output.ensures.counts (StopsWithin-as all (StopsWithin-after advances f.err)) in
    (r.0 ++ new, s.0, Consumes-append _ _ _ r.0 new r.3 p.bytes, s.1, s.2, late c.in-Err-answer_chunk.fault _ _ _ _ _ (length (r.0 ++ new)) f.blames (p.same ∙ i.4) (c.in_default-flush.ensures.blames ∙ i.5) (omega (arith, length-append r.0 new, size, r.2, i.2, p.bounds.1, c.chunks-test.true)))

pub chunks-preserved : goal.chunks-preserved
chunks-preserved g c =
    let i = c.chunks.invariant in
    let r = i.6 in
    let p = c.in-Ok-read_chunk.ensures in
    let f = c.in-Ok-answer_chunk.ensures in
    let end : ℕ = c.chunks.kept_len + c.in-Ok-read_chunk.count in
    let new : List ℕ = slice_range c.read_chunk.new.buffer c.chunks.kept_len end in
    let buffer : end ≤ length c.read_chunk.new.buffer = omega (arith, i.0, i.1, p.bounds.0, c.read_chunk.auto.buffer) in
    let len : length (take end c.read_chunk.new.buffer) ≡ end = length-take-le end c.read_chunk.new.buffer buffer in
    let start : c.in-Ok-answer_chunk.rest.start ≤ end = omega (arith, f.bounds.0, len) in
    let advances = rw (append-nil r.1) at (Advances-append r.5 (c.in_default-flush.ensures.answers c.chunks.hub)) in
    let chunk : take end c.read_chunk.new.buffer ≡ take c.chunks.kept_len c.chunks.buffer ++ new = chunk_split c.read_chunk.new.buffer c.chunks.kept_len c.in-Ok-read_chunk.count ∙ ap (λ l. l ++ new) p.kept in
    let size : length new ≡ c.in-Ok-read_chunk.count = length-chunk c.read_chunk.new.buffer c.chunks.kept_len c.in-Ok-read_chunk.count buffer in
    let cut = IsCut-more r.0 (take c.chunks.kept_len c.chunks.buffer) new _ r.1 f.ok.0 c.chunks.skipping c.in-Ok-answer_chunk.rest.skipping _ r.4 chunk f.ok.1 in
    let moved = c.move_to_front.ensures ∙ rest_kept c.read_chunk.new.buffer c.in-Ok-answer_chunk.rest.start end start in (
      omega (arith, f.bounds.1, len),
      omega (arith, i.1, c.read_chunk.auto.buffer, c.move_to_front.auto.buffer),
      omega (arith, i.2, p.bounds.1, c.chunks-test.true),
      omega (arith, i.3, f.counted, start, ap line_total c.in_default-flush.ensures.counts),
      p.same ∙ i.4,
      f.blames ∙ c.in_default-flush.ensures.blames ∙ i.5,
      (r.0 ++ new, r.1 ++ f.ok.0, length-append r.0 new ∙ omega (arith, size, r.2), Consumes-append _ _ _ r.0 new r.3 p.bytes, rw moved cut, Advances-append advances f.ok.2),
    )

-- The check would find each of these too, but only after long searches.
pub slice_bounds-finish-end : goal.slice_bounds-finish-end
slice_bounds-finish-end g c = grind (arith, common_steps)

pub slice_bounds-chunk-end : goal.slice_bounds-chunk-end
slice_bounds-chunk-end g c = grind (arith, common_steps)

pub slice_bounds-chunk-end-in-chunks : goal.slice_bounds-chunk-end-in-chunks
slice_bounds-chunk-end-in-chunks g c = grind (arith, common_steps)

pub overflow_sub-kept_len : goal.overflow_sub-kept_len
overflow_sub-kept_len g c = grind (arith, common_steps)

pub move_to_front-requires : goal.move_to_front-requires
move_to_front-requires g c = grind (arith, common_steps)

pub chunks-smaller : goal.chunks-smaller
chunks-smaller g c = grind (arith, common_steps)

pub answer_chunk-requires-clause-few : goal.answer_chunk-requires-clause-few
answer_chunk-requires-clause-few g c = grind (arith, common_steps)

pub finish-requires-clause-few : goal.finish-requires-clause-few
finish-requires-clause-few g c = grind (arith, common_steps)

pub overflow_add-end : goal.overflow_add-end
overflow_add-end g c = grind (arith, common_steps)

pub overflow_add-total : goal.overflow_add-total
overflow_add-total g c = grind (arith, common_steps)

pub overflow_sub-total : goal.overflow_sub-total
overflow_sub-total g c = grind (arith, common_steps)

pub read_chunk-requires-clause-some : goal.read_chunk-requires-clause-some
read_chunk-requires-clause-some g c = grind (arith, common_steps)

pub read_chunk-requires-clause-space : goal.read_chunk-requires-clause-space
read_chunk-requires-clause-space g c = grind (arith, common_steps)

pub answer_chunk-requires-clause-scanned : goal.answer_chunk-requires-clause-scanned
answer_chunk-requires-clause-scanned g c = grind (arith, common_steps)

pub finish-requires-clause-whole : goal.finish-requires-clause-whole
finish-requires-clause-whole g c = grind (arith, common_steps)
