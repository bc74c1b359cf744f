-- What the tables are seen as: all that is looked up but first sends and outboxes.
use Rattle.std.specs.Prelude.{◌≡◌, ℕ, Bool, true, false, nat_eq, List, [], None, IfSome, bytes_eq}
use Rattle.std.specs.Option.{option_map_or}
use Rattle.std.specs.Map.{lookup, keys_of}
use Rattle.taf_codes.specs.declared.code.UnitCode.{UnitCode}
use Rattle.taf_codes.specs.declared.name.ConsignmentId.{ConsignmentId}
use Rattle.trip_plan.specs.Trip.{Trip}
use Rattle.taf_messages.specs.declared.message.Message.{Message}
use Rattle.taf_messages.specs.declared.message.Body.{Body}
use Rattle.taf_messages.specs.declared.message.Body.TheVariants as body
use Rattle.journey.specs.declared.event.Event.{Event}
use Rattle.journey.specs.Journey.{Journey}
use Rattle.eti_chain.specs.Estimates.{fits}
use Rattle.interchange.specs.OfferTable.{OfferTable, offer_of, is_standing}
use Rattle.hub_model.specs.HubState.{HubState, new_state, journey_after}
use Rattle.hub_model.specs.Faults.{fault, is_unknown}

-- the entries of the tables, in their order
pub record TableEntries : Type 0 where
  pub wagons : List (ℕ × Journey)
  pub plans : List (ConsignmentId × Trip)
  pub units : List (UnitCode × Trip)
  pub offers : OfferTable

-- the events that stand in the tables of a wagon
abbrev pub events_in : List (ℕ × Journey) → ℕ → List Event
events_in wagons w = option_map_or (λ j. j.events) (lookup (nat_eq w) wagons) []

-- what the tables know
abbrev pub table_state : TableEntries → HubState
table_state t = record new_state {
  journey = events_in t.wagons;
  plan_of = λ c. lookup (bytes_eq c) t.plans;
  unit_plan = λ u. lookup (bytes_eq u) t.units;
  offer = offer_of t.offers;
  is_open = is_standing t.offers;
  fleet = keys_of t.wagons;
}

-- all of what is known but first sends and outboxes
abbrev pub table_part : HubState → HubState
table_part s = record new_state {
  journey = s.journey;
  plan_of = s.plan_of;
  unit_plan = s.unit_plan;
  offer = s.offer;
  is_open = s.is_open;
  fleet = s.fleet;
}

-- a journey stands under its own wagon, and has begun
pub record IsJourneyEntry (w : ℕ) (j : Journey) : Type 0 where
  pub wagon : j.wagon ≡ w
  pub begun : is_unknown j.events ≡ false

-- each journey stands under its wagon
abbrev pub AreJourneyEntries : List (ℕ × Journey) → Type 0
AreJourneyEntries wagons = (w : ℕ) → IfSome (lookup (nat_eq w) wagons) (IsJourneyEntry w)

-- the message goes on with journeys that have begun; it is no plan
abbrev pub continues_journeys : Body → Bool
continues_journeys (body.Plan p) = false
continues_journeys _ = true

-- the message may be accepted: it has no fault, no estimate passes the calendar with it, and its name is new
pub record IsAcceptable (s : HubState) (m : Message) : Type 0 where
  pub sound : fault s m ≡ None
  pub fits_after : (w : ℕ) → fits (journey_after s m w) ≡ true
  pub new_name : s.offer m.by m.no ≡ None
