use Rattle.hub_model.proofs.FaultLemmas.{judged_by_the_accepted, taken_once, answered_as_at_first, others_change_nothing}
use Rattle.hub_model.proofs.laws.messages_are_taken_once.Goals as goal

pub returns : goal.returns
returns c = record { judged = judged_by_the_accepted; once = taken_once; again = answered_as_at_first; others = others_change_nothing }
