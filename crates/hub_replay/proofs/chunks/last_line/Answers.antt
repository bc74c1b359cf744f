use Rattle.hub_replay.proofs.Common.{◌≡◌, ◌<◌, length, [], ◌∷◌, sym, ◌∙◌, parsed_lines}
use Rattle.hub_replay.proofs.LineLemmas.{one_line, parsed_none, nonempty}
use Rattle.hub_replay.proofs.RunLemmas.{Advances-none, StopsWithin-here, stops-lines}
use Rattle.hub_replay.proofs.chunks.last_line.Goals as goal

pub returns-then-is_empty-clause-answers : goal.returns-then-is_empty-clause-answers
returns-then-is_empty-clause-answers g c = rw (parsed_none c.args.line.now (sym c.is_empty.ensures ∙ c.if-is_empty.true)) (Advances-none _ c.args.hub.now c.args.output.now)

pub returns-in_err-parsed_line-clause-answers : goal.returns-in_err-parsed_line-clause-answers
returns-in_err-parsed_line-clause-answers g c = stops-lines c.from_residual.result _ _ _ c.from_residual.ensures.0 (StopsWithin-here _ c.args.hub.now c.args.output.now _)

pub returns-clause-answers : goal.returns-clause-answers
returns-clause-answers g c =
    let some : 0 < length c.args.line.now = nonempty c.args.line.now (sym c.is_empty.ensures ∙ c.if-is_empty.false) in
    let e : parsed_lines c.args.line.now ≡ c.in_ok-parsed_line.parsed_line ∷ [] = rw (c.in_ok-parsed_line.ensures.value) (one_line c.args.line.now c.requires.whole some) in
    rw e c.answer_line.ensures.answers
