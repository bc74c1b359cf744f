use Rattle.hub_model.proofs.HistoryLemmas.{replies_are_the_run, known_by_the_calls, one_more_entry}
use Rattle.hub_model.proofs.laws.histories_are_runs.Goals as goal

pub returns : goal.returns
returns c = record { replies = replies_are_the_run; known = known_by_the_calls; more = one_more_entry }
