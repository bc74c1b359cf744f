use Rattle.hub_model.proofs.SenderLemmas.{senders_may_send}
use Rattle.hub_model.proofs.laws.senders_may_send.Goals as goal

pub returns : goal.returns
returns c = senders_may_send
