use Rattle.hub_model.proofs.ItemCountLemmas.{items_are_few, outboxes_are_bounded}
use Rattle.hub_model.proofs.AcknowledgementLemmas.{acknowledged_are_there}
use Rattle.hub_model.proofs.GrowthLemmas.{journeys_are_bounded}
use Rattle.hub_model.proofs.laws.items_and_events_are_bounded.Goals as goal

pub returns : goal.returns
returns c = record { items = items_are_few; outboxes = outboxes_are_bounded; acknowledged = acknowledged_are_there; journeys = journeys_are_bounded }
