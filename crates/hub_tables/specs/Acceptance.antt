-- How the tables take a message.
use Rattle.std.specs.Prelude.{◌≡◌, ℕ, true, List, [], ◌∷◌, unwrap_or, bytes_eq}
use Rattle.std.specs.Option.{option_or}
use Rattle.std.specs.Map.{lookup, keys_of}
use Rattle.taf_codes.specs.declared.code.Railway.{Railway}
use Rattle.taf_codes.specs.declared.code.UnitCode.{UnitCode}
use Rattle.taf_codes.specs.declared.name.ConsignmentId.{ConsignmentId}
use Rattle.taf_messages.specs.declared.message.Message.{Message}
use Rattle.journey.specs.declared.event.Event.{Event}
use Rattle.journey.specs.Stages.{is_plan}
use Rattle.journey.specs.TrackStates.{IsTrackState, without_newest}
use Rattle.journey.specs.JourneyStates.{earlier_state}
use Rattle.journey.specs.Legs.{legs}
use Rattle.eti_chain.specs.Estimates.{fits}
use Rattle.eti_chain.specs.EstimateStates.{estimate_anchor}
use Rattle.interchange.specs.OfferTable.{offer_of, is_standing}
use Rattle.hub_model.specs.HubState.{HubState, journey_after}
use Rattle.hub_model.specs.Updates.{plan_given, unit_plan_given, offer_given, opening_given, planned_in, fleet_after}
use Rattle.hub_tables.specs.TableStates.{TableEntries, events_in}
use Rattle.hub_tables.specs.declared.wagon.WagonState.{WagonState}

-- a journey may begin with the event
pub record IsBeginning (e : Event) : Type 0 where
  pub plan : is_plan e.body ≡ true
  pub fits_after : fits (e ∷ []) ≡ true

-- this was kept beside the events of a wagon before the newest of them
pub record IsStateBefore (events : List Event) (s : WagonState) : Type 0 where
  pub track : IsTrackState (without_newest events) (earlier_state s.earlier (legs events))
  pub kept : s.kept ≡ estimate_anchor (without_newest events)
  pub fits : fits (without_newest events) ≡ true

-- each look-up has taken the message, once its events stand in the journeys
pub record HasAccepted (s : HubState) (new : TableEntries) (m : Message) : Type 0 where
  pub events : (w : ℕ) → events_in new.wagons w ≡ journey_after s m w
  pub plans : (c : ConsignmentId) → lookup (bytes_eq c) new.plans ≡ option_or (plan_given m.body c) (s.plan_of c)
  pub units : (u : UnitCode) → lookup (bytes_eq u) new.units ≡ option_or (unit_plan_given m.body u) (s.unit_plan u)
  pub offers : (by : Railway) (n : ℕ) → offer_of new.offers by n ≡ option_or (offer_given m m.body by n) (s.offer by n)
  pub opens : (by : Railway) (n : ℕ) → is_standing new.offers by n ≡ unwrap_or (opening_given m m.body by n) (s.is_open by n)
  pub keys : keys_of new.wagons ≡ fleet_after s.fleet (planned_in m.body)
