use Rattle.hub_model.proofs.OfferOrderLemmas.{always_in_order}
use Rattle.hub_model.proofs.laws.offers_are_in_order.Goals as goal

pub returns : goal.returns
returns c = always_in_order
