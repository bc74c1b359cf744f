use Rattle.hub_service.proofs.OrderLemmas.{handlers_in_order}
use Rattle.hub_service.proofs.law.handlers_in_order.Goals as goal

pub returns : goal.returns
returns c = handlers_in_order
