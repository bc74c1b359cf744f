use Rattle.inbox.proofs.LaneLemmas.{in_order}
use Rattle.inbox.proofs.law.lane_in_order.Goals as goal

pub returns : goal.returns
returns c = in_order
