-- Which event may come next.
use Rattle.std.specs.Prelude.{ℕ, ◌+◌, ◌==◌, nat_le, nat_lt, Bool, true, false, not, ◌&&◌, List, [], ◌∷◌, length, slice_get, Option, Some, is_none, option_map}
use Rattle.std.specs.Option.{option_eq}
use Rattle.std.specs.List.{list_any}
use Rattle.taf_codes.specs.declared.code.Railway.{Railway}
use Rattle.taf_codes.specs.declared.code.Place.{Place}
use Rattle.taf_codes.specs.Words.{first_of, same_text, is_text}
use Rattle.trip_plan.specs.declared.parts.Leg.{Leg}
use Rattle.taf_messages.specs.declared.reply.Why.{Why}
use Rattle.taf_messages.specs.declared.reply.Why.TheVariants.{WrongStage, NotYours, WrongPlace, WrongNext, TooManyLegs, NoSuchLeg, LegStarted, NotLastLeg}
use Rattle.taf_messages.specs.declared.movement.MovementKind.{MovementKind}
use Rattle.taf_messages.specs.declared.movement.MovementKind.TheVariants.{Release, Departure, YardArrival, YardDeparture, Exception, Estimate, Arrival, Delivery}
use Rattle.taf_messages.specs.declared.record.Stage.{Stage}
use Rattle.taf_messages.specs.declared.record.Stage.TheVariants as stage_is
use Rattle.journey.specs.declared.event.Event.{Event}
use Rattle.journey.specs.declared.event.EventBody.{EventBody}
use Rattle.journey.specs.declared.event.EventBody.TheVariants.{Planned, Moved, EstimateAsked, LegTimed, Offered, Answered, Withdrawn, Rerouted}
use Rattle.journey.specs.declared.journey_state.JourneyState.{JourneyState}
use Rattle.journey.specs.JourneyStates.{journey_state, on_its_way, responsible_in, runner_in, target_in}

-- the test of equal stages
abbrev pub same_stage : Stage → Stage → Bool
same_stage stage_is.Planned stage_is.Planned = true
same_stage stage_is.Released stage_is.Released = true
same_stage stage_is.Running stage_is.Running = true
same_stage stage_is.InYard stage_is.InYard = true
same_stage stage_is.Offered stage_is.Offered = true
same_stage stage_is.Arrived stage_is.Arrived = true
same_stage stage_is.Delivered stage_is.Delivered = true
same_stage _ _ = false

-- the wagon is in one of these stages
abbrev pub is_in : JourneyState → List Stage → Bool
is_in s stages = list_any (λ other. option_eq same_stage s.stage (Some other)) stages

-- the railway is the lead of the plan
abbrev pub is_lead : JourneyState → Railway → Bool
is_lead s by = is_text s.lead by

-- the railway answers for the wagon
abbrev pub is_responsible : JourneyState → Railway → Bool
is_responsible s by = is_text (responsible_in s) by

-- the railway runs leg i
abbrev pub runs_leg : JourneyState → ℕ → Railway → Bool
runs_leg s i by = is_text (runner_in s i) by

-- the wagon stands in the yard of this place, where its current leg ends (4.2.8)
abbrev pub may_be_offered_at : JourneyState → Place → Bool
may_be_offered_at s place = is_text s.yard place && is_text (target_in s) place

-- what may be wrong where a railway reports this movement, in the order of the checks (4.2.7)
abbrev pub movement_checks : JourneyState → Railway → MovementKind → List (Bool × Why)
movement_checks s by Release =
    (not (is_in s (stage_is.Planned ∷ [])), WrongStage) ∷
    (not (is_lead s by), NotYours) ∷ []
movement_checks s by Departure =
    (not (is_in s (stage_is.Released ∷ [])), WrongStage) ∷
    (not (runs_leg s 0 by), NotYours) ∷ []
movement_checks s by (YardArrival place) =
    (not (is_in s (stage_is.Running ∷ [])), WrongStage) ∷
    (not (is_responsible s by), NotYours) ∷ []
movement_checks s by (YardDeparture place) =
    (not (is_in s (stage_is.InYard ∷ [])), WrongStage) ∷
    (not (is_responsible s by), NotYours) ∷
    (not (is_text s.yard place), WrongPlace) ∷ []
movement_checks s by (Exception delay) =
    (not (on_its_way s), WrongStage) ∷
    (not (is_responsible s by), NotYours) ∷ []
movement_checks s by Estimate =
    (not (on_its_way s), WrongStage) ∷
    (not (is_responsible s by), NotYours) ∷ []
movement_checks s by Arrival =
    (not (is_in s (stage_is.Running ∷ stage_is.InYard ∷ [])), WrongStage) ∷
    (not (is_responsible s by), NotYours) ∷
    (not (s.leg_index + 1 == length s.legs), NotLastLeg) ∷ []
movement_checks s by Delivery =
    (not (is_in s (stage_is.Arrived ∷ [])), WrongStage) ∷
    (not (is_responsible s by), NotYours) ∷ []

-- the same for new legs after the current one
abbrev pub route_checks : JourneyState → Railway → List Leg → List (Bool × Why)
route_checks s by route =
    (not (is_in s (stage_is.Planned ∷ stage_is.Released ∷ stage_is.Running ∷ stage_is.InYard ∷ [])), WrongStage) ∷
    (not (is_lead s by), NotYours) ∷
    (not (same_text (option_map (λ l. l.origin) (slice_get route 0)) (target_in s)), WrongPlace) ∷
    (same_text (option_map (λ l. l.ru) (slice_get route 0)) (runner_in s s.leg_index), WrongNext) ∷
    (nat_lt 8 (s.leg_index + 1 + length route), TooManyLegs) ∷ []

-- the same for the minutes of leg i
abbrev pub time_checks : JourneyState → Railway → ℕ → List (Bool × Why)
time_checks s by i =
    (is_none (slice_get s.legs i), NoSuchLeg) ∷
    (not (runs_leg s i by), NotYours) ∷
    (s.has_departed && nat_le i s.leg_index, LegStarted) ∷ []

-- the same for any event; no plan comes after the first event
abbrev pub checks : JourneyState → Railway → EventBody → List (Bool × Why)
checks s by (Planned plan) = (true, WrongStage) ∷ []
checks s by (Moved what) = movement_checks s by what
checks s by EstimateAsked =
    (not (on_its_way s), WrongStage) ∷
    (not (is_lead s by), NotYours) ∷ []
checks s by (LegTimed i minutes) = time_checks s by i
checks s by (Offered place to) =
    (not (is_in s (stage_is.InYard ∷ [])), WrongStage) ∷
    (not (is_responsible s by), NotYours) ∷
    (not (may_be_offered_at s place), WrongPlace) ∷
    (not (runs_leg s (s.leg_index + 1) to), WrongNext) ∷ []
checks s by (Answered place received) = (not (is_in s (stage_is.Offered ∷ [])), WrongStage) ∷ []
checks s by (Withdrawn place) = (not (is_in s (stage_is.Offered ∷ [])), WrongStage) ∷ []
checks s by (Rerouted route) = route_checks s by route

-- why a railway may not add it to the events of a journey, if it may not: the first check that applies
abbrev pub refusal : List Event → Railway → EventBody → Option Why
refusal events by body = first_of (checks (journey_state events) by body)
