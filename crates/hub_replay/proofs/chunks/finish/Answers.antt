use Rattle.hub_replay.proofs.Common.{append-nil, parsed_lines}
use Rattle.hub_replay.proofs.RunLemmas.{Advances-append, StopsWithin-after, stops-lines}
use Rattle.hub_replay.proofs.chunks.finish.Goals as goal

pub returns-in_err-flush-clause-answers : goal.returns-in_err-flush-clause-answers
returns-in_err-flush-clause-answers g c = stops-lines c.from_residual-in_err-flush.result _ _ _ c.from_residual-in_err-flush.ensures.0 (rw (append-nil (parsed_lines c.args.line.now)) at (StopsWithin-after c.in_ok-last_line.ensures.answers (c.in_err-flush.ensures.answers _)))

pub returns-clause-answers : goal.returns-clause-answers
returns-clause-answers g c = rw (append-nil (parsed_lines c.args.line.now)) at (Advances-append c.in_ok-last_line.ensures.answers (c.in_ok-flush.ensures.answers _))
