use Rattle.session_lines.proofs.TallyLemmas.{IsOwnTally-run, all_answered}
use Rattle.session_lines.proofs.law.tallies_are_own.Goals as goal

pub returns : goal.returns
returns c = λ id events. (IsOwnTally-run id events, all_answered id events)
