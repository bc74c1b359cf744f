-- What is shown of a wagon, and to whom (4.2.11).
use Rattle.std.specs.Prelude.{ℕ, ◌+◌, ◌==◌, Bool, ◌||◌, List, [], ◌∷◌, map, filter, Option, option_map, bytes_eq}
use Rattle.std.specs.Option.{option_and_then}
use Rattle.std.specs.List.{list_any}
use Rattle.taf_codes.specs.declared.code.Railway.{Railway}
use Rattle.taf_codes.specs.declared.code.UnitCode.{UnitCode}
use Rattle.trip_plan.specs.declared.parts.Load.{Load}
use Rattle.trip_plan.specs.declared.parts.UnitLoad.{UnitLoad}
use Rattle.trip_plan.specs.declared.parts.Load.TheVariants.{Loaded, Empty}
use Rattle.trip_plan.specs.Trip.{Trip}
use Rattle.taf_messages.specs.declared.event.RecordEventKind.{RecordEventKind}
use Rattle.taf_messages.specs.declared.event.RecordEventKind.TheVariants as shown_as
use Rattle.taf_messages.specs.declared.event.RecordEvent.{RecordEvent}
use Rattle.taf_messages.specs.declared.record.Stage.{Stage}
use Rattle.taf_messages.specs.declared.record.Stage.TheVariants as stage_is
use Rattle.taf_messages.specs.declared.record.Status.{Status}
use Rattle.taf_messages.specs.declared.record.Status.TheVariants as status_is
use Rattle.taf_messages.specs.declared.record.Record.{Record}
use Rattle.journey.specs.declared.event.Event.{Event}
use Rattle.journey.specs.declared.event.EventBody.{EventBody}
use Rattle.journey.specs.declared.event.EventBody.TheVariants.{Planned, Moved, EstimateAsked, LegTimed, Offered, Answered, Withdrawn, Rerouted}
use Rattle.journey.specs.Stages.{stage, leg_index, responsible, plan}
use Rattle.journey.specs.Legs.{legs, place, index_after}
use Rattle.journey.specs.JourneyStates.{journey_state}
use Rattle.journey.specs.Checks.{is_lead}
use Rattle.eti_chain.specs.Estimates.{estimates, eta, is_late}

-- the first status for a loaded wagon, and the second for an empty one
abbrev pub by_load : Load → Status → Status → Status
by_load Loaded loaded empty = loaded
by_load Empty loaded empty = empty

-- the status of a wagon in this stage
abbrev pub status : Stage → Load → Status
status stage_is.Planned load = by_load load status_is.Loading status_is.FleetControl
status stage_is.Released load = by_load load status_is.Loading status_is.FleetControl
status stage_is.Delivered load = by_load load status_is.Unloading status_is.FleetControl
status _ load = by_load load status_is.LoadedOnJourney status_is.EmptyOnJourney

-- what is shown of an event that comes on leg c
abbrev pub event_kind_on : ℕ → EventBody → RecordEventKind
event_kind_on c (Planned p) = shown_as.Planned
event_kind_on c (Moved what) = shown_as.Moved what
event_kind_on c EstimateAsked = shown_as.EstimateAsked
event_kind_on c (LegTimed leg minutes) = shown_as.LegTimed leg minutes
event_kind_on c (Offered place to) = shown_as.Offered place
event_kind_on c (Answered place received) = shown_as.Answered received
event_kind_on c (Withdrawn place) = shown_as.Withdrawn
event_kind_on c (Rerouted route) = shown_as.Rerouted (c + 1)

-- an event as it is shown
abbrev pub record_event : ℕ → Event → RecordEvent
record_event c e = record { by = e.by; no = e.no; at = e.at; what = event_kind_on c e.body }

-- the events as they are shown, the first of which comes on leg c
abbrev pub record_events : ℕ → List Event → List RecordEvent
record_events c [] = []
record_events c (e ∷ events) = record_event c e ∷ record_events (index_after c e.body) events

-- the intermodal units that are loaded on the wagon, in order
abbrev pub units_among : List UnitLoad → ℕ → List UnitCode
units_among units w = map (λ l. l.unit) (filter (λ l. l.wagon == w) units)

-- those that a plan loads on it
abbrev pub units_on : Trip → ℕ → List UnitCode
units_on p w = units_among p.units w

-- the record of a wagon with this plan, in this stage
abbrev pub record_in : ℕ → List Event → Trip → Stage → Record
record_in w events p s = record {
  wagon = w;
  lead = p.lead;
  consignment = p.consignment;
  load = p.load;
  commit = p.commit;
  stage = s;
  status = status s p.load;
  leg = leg_index events;
  place = place events;
  responsible = responsible events;
  estimates = estimates events;
  eta = eta events;
  late = is_late events;
  events = record_events 0 events;
  units = units_on p w;
}

-- the record of a wagon; a wagon without a journey has none
abbrev pub record_of : ℕ → List Event → Option Record
record_of w events = option_and_then (λ p. option_map (record_in w events p) (stage events)) (plan events)

-- the lead and the railways of the legs
abbrev pub may_see : List Event → Railway → Bool
may_see events by = is_lead (journey_state events) by || list_any (λ l. bytes_eq l.ru by) (legs events)
