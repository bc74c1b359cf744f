use Rattle.hub_replay.proofs.Common.{◌+◌, ◌-◌, ◌≤◌, ◌++◌, [], ℕ, List, arith, refl, sym, ◌∙◌, drop, take, length, subst, length-drop, common_steps, drop-drop, take_all, Batch, IsTaken, IsBatch}
use Rattle.hub_replay.proofs.LineLemmas.{IsTaken-none, IsTaken-append, parsed_taken}
use Rattle.hub_replay.proofs.RunLemmas.{Advances-none, Advances-append, StopsWithin-here, StopsWithin-after, StopsWithin-more, StopsWithin-err, on_err}
use Rattle.hub_replay.proofs.chunks.answer_lines.Goals as goal

-- a span of the bytes from a place on
from_place : (chunk : List ℕ) (place : ℕ) (batch : Batch) → IsBatch (take (length chunk - place) (drop place chunk)) batch → IsBatch (drop place chunk) batch
from_place chunk place batch =
    let all : length (drop place chunk) ≤ length chunk - place = omega (arith, length-drop place chunk) in
    subst (λ l. IsBatch l batch) (take_all (length chunk - place) (drop place chunk) all)

pub batches-init : goal.batches-init
batches-init g c = (
  omega arith,
  omega (arith, c.requires.order.0, c.requires.order.1),
  (omega arith, omega arith),
  from_place c.args.part.chunk.now c.args.part.start _ c.in_ok-batch.ensures,
  omega arith,
  refl,
  ([], IsTaken-none _, Advances-none _ c.args.hub.now c.args.output.now),
)

pub returns-in_err-batch-clause-err : goal.returns-in_err-batch-clause-err
returns-in_err-batch-clause-err g c = on_err _ (StopsWithin-here _ c.args.hub.now c.args.output.now _)

pub returns-in_err-answered-clause-err : goal.returns-in_err-answered-clause-err
returns-in_err-answered-clause-err g c =
    let i = c.batches.invariant in
    let t = IsTaken-append _ _ _ i.6.0 c.batches.batch.lines.items i.6.1 i.3.says in
    let stops = rw (c.in_err-answered.was) at c.answer_and_parse_next-answered.ensures.answers in
    StopsWithin-err _ (parsed_taken _ _ _ t) (StopsWithin-more _ (StopsWithin-after i.6.2 stops))

pub returns-in_err-ahead-clause-err : goal.returns-in_err-ahead-clause-err
returns-in_err-ahead-clause-err g c =
    let i = c.batches.invariant in
    let t = IsTaken-append _ _ _ i.6.0 c.batches.batch.lines.items i.6.1 i.3.says in
    let advances = rw (c.in_ok-answered.was) at c.answer_and_parse_next-answered.ensures.answers in
    StopsWithin-err _ (parsed_taken _ _ _ t) (StopsWithin-after (Advances-append i.6.2 advances) (StopsWithin-here _ _ _ _))

pub batches-preserved : goal.batches-preserved
batches-preserved g c =
    let i = c.batches.invariant in
    let chunk = c.args.part.chunk.now in
    let next = c.batches.from + c.batches.batch.end in
    let hs = i.6.0 ++ c.batches.batch.lines.items in
    let t = IsTaken-append _ _ _ i.6.0 c.batches.batch.lines.items i.6.1 i.3.says in
    let advances = rw (c.in_ok-answered.was) at c.answer_and_parse_next-answered.ensures.answers in
    let counted = rw (c.in_ok-answered.was) at c.answer_and_parse_next-answered.ensures.counted in
    let blames = rw (c.in_ok-answered.was) at c.answer_and_parse_next-answered.ensures.blames in
    let batch = rw (c.in_ok-ahead.was) at c.answer_and_parse_next-answered.ensures.next in
    let size = length-drop c.batches.from chunk in (
      omega (arith, i.0),
      omega (arith, i.1, i.3.bounds, size),
      c.longer-size.ensures,
      subst (λ s. IsBatch (drop next chunk) s) (sym c.replace.ensures.after) (from_place chunk next _ batch),
      omega (arith, i.4, i.3.few, counted),
      blames ∙ i.5,
      (hs, subst (λ r. IsTaken (drop c.args.part.start chunk) hs r) (drop-drop c.batches.batch.end c.batches.from chunk) t, Advances-append i.6.2 advances),
    )

-- The check would find each of these too, but only after long searches.
pub batches-smaller : goal.batches-smaller
batches-smaller g c = grind (arith, common_steps)

pub answer_and_parse_next-answered-requires-clause-few : goal.answer_and_parse_next-answered-requires-clause-few
answer_and_parse_next-answered-requires-clause-few g c = grind (arith, common_steps)

pub answer_and_parse_next-answered-requires-clause-some : goal.answer_and_parse_next-answered-requires-clause-some
answer_and_parse_next-answered-requires-clause-some g c = grind (arith, common_steps)

pub longer-size-requires : goal.longer-size-requires
longer-size-requires g c = grind (arith, common_steps)

pub overflow_add-next : goal.overflow_add-next
overflow_add-next g c = grind (arith, common_steps)

pub overflow_sub-scanned : goal.overflow_sub-scanned
overflow_sub-scanned g c = grind (arith, common_steps)

pub parse-requires-clause-scanned : goal.parse-requires-clause-scanned
parse-requires-clause-scanned g c = grind (arith, common_steps)

pub parse-requires-clause-some : goal.parse-requires-clause-some
parse-requires-clause-some g c = grind (arith, common_steps)

pub slice_bounds-answer_and_parse_next-end : goal.slice_bounds-answer_and_parse_next-end
slice_bounds-answer_and_parse_next-end g c = grind (arith, common_steps)

pub slice_bounds-answer_and_parse_next-start : goal.slice_bounds-answer_and_parse_next-start
slice_bounds-answer_and_parse_next-start g c = grind (arith, common_steps)

pub slice_bounds-parse-start : goal.slice_bounds-parse-start
slice_bounds-parse-start g c = grind (arith, common_steps)

pub slice_bounds-parse-end : goal.slice_bounds-parse-end
slice_bounds-parse-end g c = grind (arith, common_steps)

pub slice_bounds-parse-count : goal.slice_bounds-parse-count
slice_bounds-parse-count g c = grind (arith, common_steps)

pub slice_bounds-answer_and_parse_next-count : goal.slice_bounds-answer_and_parse_next-count
slice_bounds-answer_and_parse_next-count g c = grind (arith, common_steps)
