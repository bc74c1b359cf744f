use Rattle.hub_replay.proofs.RunLemmas.{StopsWithin-flush}
use Rattle.hub_replay.proofs.answer_line.write_pending.Goals as goal

pub returns-in_default-clause-answers : goal.returns-in_default-clause-answers
returns-in_default-clause-answers g c = let h = c.in_default.ensures.err in λ e. StopsWithin-flush _ _ e c.args.output.now _ h.0 h.1 c.as_slice.ensures.value h.2 h.3
