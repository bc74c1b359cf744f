use Rattle.hub_shifts.proofs.OrderLemmas.{lanes_in_order}
use Rattle.hub_shifts.proofs.law.lanes_in_order.Goals as goal

pub returns : goal.returns
returns c = lanes_in_order
