use Rattle.hub_model.proofs.AdmittedLemmas.{journeys_are_admitted, always_on_leg}
use Rattle.hub_model.proofs.laws.wagons_are_on_their_legs.Goals as goal

pub returns : goal.returns
returns c = record { admitted = journeys_are_admitted; on_a_leg = always_on_leg }
