use Rattle.hub_replay.proofs.RunLemmas.{Advances-none}
use Rattle.hub_replay.proofs.answer_line.write_past_threshold.Goals as goal

pub returns-clause-answers : goal.returns-clause-answers
returns-clause-answers g c = λ e. Advances-none _ e c.args.output.now
