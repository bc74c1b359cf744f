-- The names of stages, statuses and refusals, and what a movement or an event of a record shows.
use Rattle.std.specs.Prelude.{ℕ, List, Bool, Option, Some, None, codes}
use Rattle.taf_codes.specs.declared.code.Place.{Place}
use Rattle.taf_messages.specs.declared.movement.MovementKind.{MovementKind}
use Rattle.taf_messages.specs.declared.movement.MovementKind.TheVariants.{Release, Departure, YardArrival, YardDeparture, Exception, Estimate, Arrival, Delivery}
use Rattle.taf_messages.specs.declared.kind.MovementName.{MovementName}
use Rattle.taf_messages.specs.declared.kind.MovementName.TheVariants as movements
use Rattle.taf_messages.specs.declared.kind.BodyName.{BodyName}
use Rattle.taf_messages.specs.declared.kind.BodyName.TheVariants as names
use Rattle.taf_messages.specs.declared.event.RecordEventKind.{RecordEventKind}
use Rattle.taf_messages.specs.declared.event.RecordEventKind.TheVariants.{Planned, Moved, EstimateAsked, LegTimed, Offered, Answered, Withdrawn, Rerouted}
use Rattle.taf_messages.specs.declared.record.Stage.{Stage}
use Rattle.taf_messages.specs.declared.record.Stage.TheVariants as stages
use Rattle.taf_messages.specs.declared.record.Status.{Status}
use Rattle.taf_messages.specs.declared.record.Status.TheVariants as statuses
use Rattle.taf_messages.specs.declared.reply.Why.{Why}
use Rattle.taf_messages.specs.declared.reply.Why.TheVariants as whys

abbrev pub stage_name : Stage → List ℕ
stage_name stages.Planned = codes "planned"
stage_name stages.Released = codes "released"
stage_name stages.Running = codes "running"
stage_name stages.InYard = codes "in_yard"
stage_name stages.Offered = codes "offered"
stage_name stages.Arrived = codes "arrived"
stage_name stages.Delivered = codes "delivered"

abbrev pub status_name : Status → List ℕ
status_name statuses.Loading = codes "loading"
status_name statuses.LoadedOnJourney = codes "loaded_on_journey"
status_name statuses.EmptyOnJourney = codes "empty_on_journey"
status_name statuses.Unloading = codes "unloading"
status_name statuses.FleetControl = codes "fleet_control"

abbrev pub why_name : Why → List ℕ
why_name whys.UnknownWagon = codes "unknown_wagon"
why_name whys.UnknownConsignment = codes "unknown_consignment"
why_name whys.UnknownOffer = codes "unknown_offer"
why_name whys.UnknownUnit = codes "unknown_unit"
why_name whys.ConsignmentTaken = codes "consignment_taken"
why_name whys.WagonBusy = codes "wagon_busy"
why_name whys.UnitBusy = codes "unit_busy"
why_name whys.WrongStage = codes "wrong_stage"
why_name whys.NotYours = codes "not_yours"
why_name whys.WrongPlace = codes "wrong_place"
why_name whys.WrongNext = codes "wrong_next"
why_name whys.TooManyLegs = codes "too_many_legs"
why_name whys.NoSuchLeg = codes "no_such_leg"
why_name whys.LegStarted = codes "leg_started"
why_name whys.NotLastLeg = codes "not_last_leg"
why_name whys.OfferClosed = codes "offer_closed"
why_name whys.ListsDiffer = codes "lists_differ"
why_name whys.BeyondCalendar = codes "beyond_calendar"
why_name whys.NumberReused = codes "number_reused"
why_name whys.AckAhead = codes "ack_ahead"

-- the name of a movement's kind, and what it says beside its wagon and its moment
abbrev pub name_of : MovementKind → MovementName
name_of Release = movements.Release
name_of Departure = movements.Departure
name_of (YardArrival place) = movements.YardArrival
name_of (YardDeparture place) = movements.YardDeparture
name_of (Exception delay) = movements.Exception
name_of Estimate = movements.Estimate
name_of Arrival = movements.Arrival
name_of Delivery = movements.Delivery

abbrev pub place_in : MovementKind → Option Place
place_in (YardArrival place) = Some place
place_in (YardDeparture place) = Some place
place_in _ = None

abbrev pub delay_in : MovementKind → Option ℕ
delay_in (Exception delay) = Some delay
delay_in _ = None

-- the name of an event's kind is that of its message's
abbrev pub event_kind_name : RecordEventKind → BodyName
event_kind_name Planned = names.Plan
event_kind_name (Moved what) = names.Movement (name_of what)
event_kind_name EstimateAsked = names.EtiAsk
event_kind_name (LegTimed leg minutes) = names.LegTime
event_kind_name (Offered place) = names.Offer
event_kind_name (Answered received) = names.Answer
event_kind_name Withdrawn = names.Withdraw
event_kind_name (Rerouted leg) = names.Reroute

-- what an event shows beside its kind, sender, number and moment
abbrev pub event_kind_delay : RecordEventKind → Option ℕ
event_kind_delay (Moved what) = delay_in what
event_kind_delay _ = None

abbrev pub event_kind_leg : RecordEventKind → Option ℕ
event_kind_leg (LegTimed leg minutes) = Some leg
event_kind_leg (Rerouted leg) = Some leg
event_kind_leg _ = None

abbrev pub event_kind_minutes : RecordEventKind → Option ℕ
event_kind_minutes (LegTimed leg minutes) = Some minutes
event_kind_minutes _ = None

abbrev pub event_kind_place : RecordEventKind → Option Place
event_kind_place (Moved what) = place_in what
event_kind_place (Offered place) = Some place
event_kind_place _ = None

abbrev pub event_kind_received : RecordEventKind → Option Bool
event_kind_received (Answered received) = Some received
event_kind_received _ = None
