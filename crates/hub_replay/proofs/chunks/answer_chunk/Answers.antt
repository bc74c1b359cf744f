use Rattle.hub_replay.proofs.Common.{◌≡◌, ◌<◌, ◌++◌, ◌∷◌, [], arith, ◌∙◌, drop, length, length-drop, ap, TooLong, parsed_lines, after_skipping}
use Rattle.hub_replay.proofs.LineLemmas.{IsCut-skipped, IsCut-long, parsed_from, parsed_rest, parsed_taken}
use Rattle.hub_replay.proofs.RunLemmas.{Advances-none, Advances-append, StopsWithin-after, StopsWithin-err}
use Rattle.hub_replay.proofs.chunks.answer_chunk.Goals as goal

pub returns-in_default-clause-ok : goal.returns-in_default-clause-ok
returns-in_default-clause-ok g c = ([], rw (c.in_default.ensures.0) (IsCut-skipped c.args.input.chunk.now c.in_default.ensures.1), Advances-none _ c.args.hub.now c.args.output.now)

pub returns-in_err-end-clause-err : goal.returns-in_err-end-clause-err
returns-in_err-end-clause-err g c = StopsWithin-err _ (parsed_from c.args.input.chunk.now c.args.input.skipping c.in-Some.start c.in-Some.ensures.2) c.in_err-end.ensures.err

pub returns-in_err-answer_line-clause-err : goal.returns-in_err-answer_line-clause-err
returns-in_err-answer_line-clause-err g c =
    let t = c.in_ok-end.ensures.ok in
    let long : 65536 < length (drop c.in_ok-end.end c.args.input.chunk.now) = omega (arith, length-drop c.in_ok-end.end c.args.input.chunk.now, c.if-chunk-end-le-LONGEST.false) in
    let all : parsed_lines (after_skipping c.args.input.skipping c.args.input.chunk.now) ≡ t.0 ++ TooLong ∷ [] = parsed_from c.args.input.chunk.now c.args.input.skipping c.in-Some.start c.in-Some.ensures.2 ∙ parsed_taken _ t.0 _ t.1 ∙ ap (λ l. t.0 ++ l) (parsed_rest _ c.in_ok-end.ensures.whole long) in
    StopsWithin-err _ all (StopsWithin-after t.2 c.in_err-answer_line.ensures.answers)

pub returns-clause-ok : goal.returns-clause-ok
returns-clause-ok g c =
    let t = c.in_ok-end.ensures.ok in
    let long : 65536 < length (drop c.in_ok-end.end c.args.input.chunk.now) = omega (arith, length-drop c.in_ok-end.end c.args.input.chunk.now, c.if-chunk-end-le-LONGEST.false) in
    (t.0 ++ TooLong ∷ [], IsCut-long c.args.input.chunk.now c.args.input.skipping t.0 c.in-Some.start c.in_ok-end.end c.in-Some.ensures.2 t.1 c.in_ok-end.ensures.whole long, Advances-append t.2 c.in_ok-answer_line.ensures.answers)
