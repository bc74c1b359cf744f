use Rattle.hub_model.proofs.PositionLemmas.{first_sends_stand}
use Rattle.hub_model.proofs.laws.first_sends_stand_in_the_history.Goals as goal

pub returns : goal.returns
returns c = first_sends_stand
