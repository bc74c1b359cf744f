-- Each look-up is what its list says.
use Rattle.hub_model.proofs.Common.{LookupsAreTheLists}
use Rattle.hub_model.proofs.ListLemmas.{plan_of_list, unit_plan_list, offer_list, outbox_list}
use Rattle.hub_model.proofs.SendLemmas.{first_send_list, acknowledged_list}
use Rattle.hub_model.proofs.WagonEventLemmas.{journey_list}
use Rattle.hub_model.proofs.FleetLemmas.{fleet_list}
use Rattle.hub_model.proofs.OfferOpeningLemmas.{is_open_list}

pub lookups_are_the_lists : LookupsAreTheLists
lookups_are_the_lists calls = record {
  journey = λ w. journey_list w calls;
  plan_of = λ c. plan_of_list c calls;
  unit_plan = λ u. unit_plan_list u calls;
  offer = λ by n. offer_list by n calls;
  is_open = λ by n. is_open_list by n calls;
  first_send = λ by n. first_send_list by n calls;
  acknowledged = λ r. acknowledged_list r calls;
  outbox = λ r. outbox_list r calls;
  fleet = fleet_list calls;
}
