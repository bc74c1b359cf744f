use Rattle.std.proofs.Common.{◌≡◌, ◌+◌, ◌-◌, ◌≤◌, min, ◌++◌, [], ap, sym, ◌∙◌, refl, subst, arith, append-nil, take, drop, length, length-append, List, ℕ}
use Rattle.std.specs.List.{slice_range}
use Rattle.std.proofs.lemmas.Grind.{common_steps}
use Rattle.std.proofs.lemmas.List.{length-take-le, take-take, length-drop}
use Rattle.call_lines.specs.Lines.{has_no_newline}
use Rattle.hub_replay.specs.Lines.{parsed_lines, IsTaken}
use Rattle.hub_replay.proofs.StreamLemmas.{Consumes-none, Consumes-append, Appends-none, Appends-append}
use Rattle.hub_replay.proofs.LineLemmas.{parsed_taken, chunk_split, length-chunk, nothing_more, rest_kept, IsTaken-none}
use Rattle.journaled_hub.specs.Answering.{LeadsTo, IsStoppedOnDisk}
use Rattle.journaled_hub.proofs.AnsweringLemmas.{leads_nowhere, leads_on, stopped_at_once, stopped_here, stopped_on, stopped_before}
use Rattle.journaled_hub.proofs.CrashLemmas.{gone_nowhere, gone_on}
use Rattle.journaled_hub.proofs.DiskLemmas.{all_durable}
use Rattle.journaled_hub.proofs.RunFaultLemmas.{turn_explains, read_explains}
use Rattle.journaled_hub.proofs.WholeLineLemmas.{taken_more, kept_taken}
use Rattle.journaled_hub.proofs.replay.run_journaled.Goals as goal

pub returns-in_default-clause-err : goal.returns-in_default-clause-err
returns-in_default-clause-err g c =
    let hub = c.args.hub.now in
    ([], [], hub.hub, Consumes-none _, Appends-none _, stopped_at_once hub.hub (parsed_lines []), λ sound. all_durable hub c.requires, (c.requires.sound, (refl, refl, omega arith)))

pub chunks-init : goal.chunks-init
chunks-init g c = (
  omega arith,
  c.as_mut_slice-buffer.ensures.len ∙ c.in-Ok.ensures.len,
  omega arith,
  c.requires,
  refl,
  refl,
  ([], [], [], Consumes-none _, Appends-none _, IsTaken-none [], refl, leads_nowhere c.args.hub.now.hub, refl),
  gone_nowhere c.args.hub.now c.requires,
)

-- nothing more was read
pub returns-in-Err-clause-err : goal.returns-in-Err-clause-err
returns-in-Err-clause-err g c =
    let i = c.chunks.invariant in
    let r = i.6 in
    let kept = take c.chunks.kept_len c.chunks.buffer in
    let f = c.in-Err.ensures in
    let used = rw (append-nil r.0) at (Consumes-append _ _ _ r.0 [] r.3 f.nothing) in
    let old = c.args.hub.now.hub in
    let now = c.chunks.hub.hub in
    let stop = subst (λ l. IsStoppedOnDisk old l r.1 now) (sym (parsed_taken r.0 r.2 kept r.5)) (stopped_here old now r.2 (parsed_lines kept) r.1 r.7) in
    let explains = read_explains c.in-Err.fault _ _ _ _ _ _ (length r.0) f.fault.0 i.3.sound f.fault.1 i.4 i.5 (omega (arith, r.8, c.chunks-test.true)) in
    (r.0, r.1, now, used, r.4, stop, λ sound. all_durable c.chunks.hub i.3, explains)

pub returns-clause-err : goal.returns-clause-err
returns-clause-err g c =
    let i = c.chunks.invariant in
    let r = i.6 in
    let kept = take c.chunks.kept_len c.chunks.buffer in
    let old = c.args.hub.now.hub in
    let now = c.chunks.hub.hub in
    let stop = subst (λ l. IsStoppedOnDisk old l r.1 now) (sym (parsed_taken r.0 r.2 kept r.5)) (stopped_here old now r.2 (parsed_lines kept) r.1 r.7) in
    (r.0, r.1, now, r.3, r.4, stop, λ sound. all_durable c.chunks.hub i.3, (i.3.sound, (i.4, i.5, omega (arith, r.8, i.2, c.chunks-test.false))))

-- a last line that has no newline
pub returns-in-Ok-answer_turn-clause-ok : goal.returns-in-Ok-answer_turn-clause-ok
returns-in-Ok-answer_turn-clause-ok g c =
    let i = c.chunks.invariant in
    let r = i.6 in
    let p = c.in-Ok-read_chunk.ensures in
    let f = c.in-Ok-answer_turn.ensures.ok in
    let kept = take c.chunks.kept_len c.chunks.buffer in
    let old = c.args.hub.now.hub in
    let none : length (slice_range c.read_chunk.new.buffer c.chunks.kept_len (c.chunks.kept_len + c.in-Ok-read_chunk.count)) ≡ 0 = length-chunk c.read_chunk.new.buffer c.chunks.kept_len c.in-Ok-read_chunk.count (omega (arith, i.0, i.1, p.bounds.0, c.read_chunk.auto.buffer)) ∙ c.if-count-eq0.true in
    let used = rw (nothing_more r.0 _ none) at (Consumes-append _ _ _ r.0 _ r.3 p.bytes) in
    let all : parsed_lines r.0 ≡ r.2 ++ parsed_lines (take c.chunks.kept_len c.read_chunk.new.buffer) = parsed_taken r.0 r.2 kept r.5 ∙ ap (λ l. r.2 ++ parsed_lines l) (sym p.kept) in
    let last = parsed_lines (take c.chunks.kept_len c.read_chunk.new.buffer) in
    let leads = leads_on old c.chunks.hub.hub c.answer_turn.new.hub.hub r.2 last r.1 f.0 r.7 f.2 in
    (r.0, r.1 ++ f.0, used, p.end c.if-count-eq0.true, Appends-append _ _ _ r.1 f.0 r.4 f.1, subst (λ l. LeadsTo old l c.answer_turn.new.hub.hub (r.1 ++ f.0)) (sym all) leads)

pub returns-in-Ok-answer_turn-clause-kept : goal.returns-in-Ok-answer_turn-clause-kept
returns-in-Ok-answer_turn-clause-kept g c =
    let i = c.chunks.invariant in
    (c.in-Ok-read_chunk.ensures.same ∙ i.4, c.in-Ok-answer_turn.ensures.kept ∙ i.5)

pub returns-in-Err-answer_turn-clause-err : goal.returns-in-Err-answer_turn-clause-err
returns-in-Err-answer_turn-clause-err g c =
    let i = c.chunks.invariant in
    let r = i.6 in
    let p = c.in-Ok-read_chunk.ensures in
    let f = c.in-Err-answer_turn.ensures.err in
    let kept = take c.chunks.kept_len c.chunks.buffer in
    let old = c.args.hub.now.hub in
    let none : length (slice_range c.read_chunk.new.buffer c.chunks.kept_len (c.chunks.kept_len + c.in-Ok-read_chunk.count)) ≡ 0 = length-chunk c.read_chunk.new.buffer c.chunks.kept_len c.in-Ok-read_chunk.count (omega (arith, i.0, i.1, p.bounds.0, c.read_chunk.auto.buffer)) ∙ c.if-count-eq0.true in
    let used = rw (nothing_more r.0 _ none) at (Consumes-append _ _ _ r.0 _ r.3 p.bytes) in
    let all : parsed_lines r.0 ≡ r.2 ++ parsed_lines (take c.chunks.kept_len c.read_chunk.new.buffer) = parsed_taken r.0 r.2 kept r.5 ∙ ap (λ l. r.2 ++ parsed_lines l) (sym p.kept) in
    let last = parsed_lines (take c.chunks.kept_len c.read_chunk.new.buffer) in
    let stop = stopped_on old c.chunks.hub.hub f.1 r.2 last r.1 f.0 r.7 f.3 in
    let explains = turn_explains c.in-Err-answer_turn.fault _ _ _ _ _ _ (length r.0) c.in-Err-answer_turn.ensures.fault (p.same ∙ i.4) i.5 (omega (arith, r.8, i.2)) in
    (r.0, r.1 ++ f.0, f.1, used, Appends-append _ _ _ r.1 f.0 r.4 f.2, subst (λ l. IsStoppedOnDisk old l (r.1 ++ f.0) f.1) (sym all) stop, f.4, explains)

-- whole lines
pub returns-in-Err-answer_turn-2-clause-err : goal.returns-in-Err-answer_turn-2-clause-err
returns-in-Err-answer_turn-2-clause-err g c =
    let i = c.chunks.invariant in
    let r = i.6 in
    let p = c.in-Ok-read_chunk.ensures in
    let f = c.in-Err-answer_turn-2.ensures.err in
    let buffer = c.read_chunk.new.buffer in
    let kept = take c.chunks.kept_len c.chunks.buffer in
    let end : ℕ = c.chunks.kept_len + c.in-Ok-read_chunk.count in
    let new : List ℕ = slice_range buffer c.chunks.kept_len end in
    let chunk = take end buffer in
    let old = c.args.hub.now.hub in
    let split : chunk ≡ kept ++ new = chunk_split buffer c.chunks.kept_len c.in-Ok-read_chunk.count ∙ ap (λ l. l ++ new) p.kept in
    let more = parsed_lines (take c.whole_len-whole.result chunk) in
    let taken = taken_more r.0 kept new chunk (drop c.whole_len-whole.result chunk) r.2 more r.5 split c.whole_len-whole.ensures.whole in
    let all = parsed_taken (r.0 ++ new) (r.2 ++ more) (drop c.whole_len-whole.result chunk) taken in
    let stop = stopped_before old f.1 (r.2 ++ more) (parsed_lines (drop c.whole_len-whole.result chunk)) (r.1 ++ f.0) (stopped_on old c.chunks.hub.hub f.1 r.2 more r.1 f.0 r.7 f.3) in
    let size : length new ≡ c.in-Ok-read_chunk.count = length-chunk buffer c.chunks.kept_len c.in-Ok-read_chunk.count (omega (arith, i.0, i.1, p.bounds.0, c.read_chunk.auto.buffer)) in
    let explains = turn_explains c.in-Err-answer_turn-2.fault _ _ _ _ _ _ (length (r.0 ++ new)) c.in-Err-answer_turn-2.ensures.fault (p.same ∙ i.4) i.5 (omega (arith, length-append r.0 new, size, r.8, i.2, p.bounds.1, c.chunks-test.true)) in
    (r.0 ++ new, r.1 ++ f.0, f.1, Consumes-append _ _ _ r.0 new r.3 p.bytes, Appends-append _ _ _ r.1 f.0 r.4 f.2, subst (λ l. IsStoppedOnDisk old l (r.1 ++ f.0) f.1) (sym all) stop, f.4, explains)

pub chunks-preserved : goal.chunks-preserved
chunks-preserved g c =
    let i = c.chunks.invariant in
    let r = i.6 in
    let p = c.in-Ok-read_chunk.ensures in
    let f = c.in-Ok-answer_turn-2.ensures in
    let buffer = c.read_chunk.new.buffer in
    let kept = take c.chunks.kept_len c.chunks.buffer in
    let end : ℕ = c.chunks.kept_len + c.in-Ok-read_chunk.count in
    let whole : ℕ = c.whole_len-whole.result in
    let new : List ℕ = slice_range buffer c.chunks.kept_len end in
    let chunk = take end buffer in
    let rest = drop whole chunk in
    let room : end ≤ length buffer = omega (arith, i.0, i.1, p.bounds.0, c.read_chunk.auto.buffer) in
    let len : length chunk ≡ end = length-take-le end buffer room in
    let within : whole ≤ end = omega (arith, c.whole_len-whole.ensures.within, len) in
    let split : chunk ≡ kept ++ new = chunk_split buffer c.chunks.kept_len c.in-Ok-read_chunk.count ∙ ap (λ l. l ++ new) p.kept in
    let more = parsed_lines (take whole chunk) in
    let taken = taken_more r.0 kept new chunk rest r.2 more r.5 split c.whole_len-whole.ensures.whole in
    let left : length rest ≡ end - whole = length-drop whole chunk ∙ ap (λ n. n - whole) len in
    let few : c.min-kept_len.result ≡ min (length rest) 65537 = c.min-kept_len.ensures ∙ ap (λ n. min n 65537) (sym left) in
    let most : c.min-kept_len.result ≤ end - whole = omega (arith, few, left) in
    let moved : take (end - whole) c.move_to_front.new.buffer ≡ rest = c.move_to_front.ensures ∙ rest_kept buffer whole end within in
    let shown : take c.min-kept_len.result c.move_to_front.new.buffer ≡ take c.min-kept_len.result rest = sym (take-take c.min-kept_len.result (end - whole) c.move_to_front.new.buffer most) ∙ ap (take c.min-kept_len.result) moved in
    let size : length new ≡ c.in-Ok-read_chunk.count = length-chunk buffer c.chunks.kept_len c.in-Ok-read_chunk.count room in
    let next = kept_taken (r.0 ++ new) rest (r.2 ++ more) c.min-kept_len.result taken c.whole_len-whole.ensures.rest few in (
      omega (arith, few),
      omega (arith, i.1, c.read_chunk.auto.buffer, c.move_to_front.auto.buffer),
      omega (arith, i.2, p.bounds.1, c.chunks-test.true),
      f.on_disk,
      p.same ∙ i.4,
      f.kept ∙ i.5,
      (
        r.0 ++ new,
        r.1 ++ f.ok.0,
        r.2 ++ more,
        Consumes-append _ _ _ r.0 new r.3 p.bytes,
        Appends-append _ _ _ r.1 f.ok.0 r.4 f.ok.1,
        subst (IsTaken (r.0 ++ new) (r.2 ++ more)) (sym shown) next.0,
        ap has_no_newline shown ∙ next.1,
        leads_on c.args.hub.now.hub c.chunks.hub.hub c.answer_turn-in-chunks.new.hub.hub r.2 more r.1 f.ok.0 r.7 f.ok.2,
        length-append r.0 new ∙ omega (arith, size, r.8),
      ),
      gone_on c.args.hub.now c.chunks.hub c.answer_turn-in-chunks.new.hub i.7 f.crash,
    )

-- what a crash leaves, wherever it ends
pub returns-in_default-clause-crash : goal.returns-in_default-clause-crash
returns-in_default-clause-crash g c = gone_nowhere c.args.hub.now c.requires

pub returns-in-Err-clause-crash : goal.returns-in-Err-clause-crash
returns-in-Err-clause-crash g c = c.chunks.invariant.7

pub returns-clause-crash : goal.returns-clause-crash
returns-clause-crash g c = c.chunks.invariant.7

pub returns-in-Ok-answer_turn-clause-crash : goal.returns-in-Ok-answer_turn-clause-crash
returns-in-Ok-answer_turn-clause-crash g c = gone_on c.args.hub.now c.chunks.hub c.answer_turn.new.hub c.chunks.invariant.7 c.in-Ok-answer_turn.ensures.crash

pub returns-in-Err-answer_turn-clause-crash : goal.returns-in-Err-answer_turn-clause-crash
returns-in-Err-answer_turn-clause-crash g c = gone_on c.args.hub.now c.chunks.hub c.answer_turn.new.hub c.chunks.invariant.7 c.in-Err-answer_turn.ensures.crash

pub returns-in-Err-answer_turn-2-clause-crash : goal.returns-in-Err-answer_turn-2-clause-crash
returns-in-Err-answer_turn-2-clause-crash g c = gone_on c.args.hub.now c.chunks.hub c.answer_turn-in-chunks.new.hub c.chunks.invariant.7 c.in-Err-answer_turn-2.ensures.crash

-- The check would find each of these too, but only after long searches.
pub slice_bounds-line-end : goal.slice_bounds-line-end
slice_bounds-line-end g c = grind (arith, common_steps)

pub slice_bounds-chunk-end : goal.slice_bounds-chunk-end
slice_bounds-chunk-end g c = grind (arith, common_steps)

pub slice_bounds-lines-end : goal.slice_bounds-lines-end
slice_bounds-lines-end g c = grind (arith, common_steps)

pub overflow_sub-end : goal.overflow_sub-end
overflow_sub-end g c = grind (arith, common_steps)

pub move_to_front-requires : goal.move_to_front-requires
move_to_front-requires g c = grind (arith, common_steps)

pub chunks-smaller : goal.chunks-smaller
chunks-smaller g c = grind (arith, common_steps)

pub overflow_add-end : goal.overflow_add-end
overflow_add-end g c = grind (arith, common_steps)

pub overflow_add-total : goal.overflow_add-total
overflow_add-total g c = grind (arith, common_steps)

pub overflow_sub-total : goal.overflow_sub-total
overflow_sub-total g c = grind (arith, common_steps)

pub read_chunk-requires-clause-some : goal.read_chunk-requires-clause-some
read_chunk-requires-clause-some g c = grind (arith, common_steps)

pub read_chunk-requires-clause-space : goal.read_chunk-requires-clause-space
read_chunk-requires-clause-space g c = grind (arith, common_steps)
