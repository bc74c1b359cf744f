use Rattle.hub_model.proofs.ConsentLemmas.{calls_by_consent, entries_by_consent}
use Rattle.hub_model.proofs.RunnerLemmas.{responsible_runs_the_leg}
use Rattle.hub_model.proofs.laws.responsibility_passes_by_consent.Goals as goal

pub returns : goal.returns
returns c = record { calls = calls_by_consent; histories = entries_by_consent; legs = responsible_runs_the_leg }
