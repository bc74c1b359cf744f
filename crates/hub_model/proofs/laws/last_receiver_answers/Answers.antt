use Rattle.hub_model.proofs.ReceiverLemmas.{last_receiver_answers}
use Rattle.hub_model.proofs.laws.last_receiver_answers.Goals as goal

pub returns : goal.returns
returns c = last_receiver_answers
