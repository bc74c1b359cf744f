use Rattle.carry_over.proofs.AcknowledgedLemmas.{can_go_on, go_on_alike}
use Rattle.carry_over.proofs.laws.hubs_can_go_on.Goals as goal

pub returns : goal.returns
returns c = record { at_once = can_go_on; later = go_on_alike }
