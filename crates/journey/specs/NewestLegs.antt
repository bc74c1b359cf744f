-- The legs of a wagon as a rule over all its events, each with the leg on which it comes.
use Rattle.std.specs.Prelude.{◌≡◌, ℕ, ◌+◌, ◌-◌, ◌<◌, ◌≤◌, nat_lt, ◌==◌, if◌then◌else◌, List, [], ◌∷◌, ◌++◌, length, slice_get, take, unwrap_or, Option, Some, None, option_map}
use Rattle.trip_plan.specs.declared.parts.Load.TheVariants.{Loaded}
use Rattle.trip_plan.specs.declared.parts.Leg.{Leg}
use Rattle.journey.specs.declared.event.Event.{Event}
use Rattle.journey.specs.declared.event.EventBody.{EventBody}
use Rattle.journey.specs.declared.event.EventBody.TheVariants.{Planned, LegTimed, Rerouted}
use Rattle.journey.specs.Words.{newest}
use Rattle.journey.specs.Stages.{leg_index}
use Rattle.journey.specs.Legs.{leg, legs, index_after}
use Rattle.journey.specs.Checks.{refusal}

-- what an event says, and the leg on which it comes: how many railways received the wagon before
pub record EventOnLeg : Type 0 where
  pub on : ℕ
  pub says : EventBody

-- the events of a wagon that is on leg c
abbrev pub events_on_legs_from : ℕ → List Event → List EventOnLeg
events_on_legs_from c [] = []
events_on_legs_from c (e ∷ events) = record { on = c; says = e.body } ∷ events_on_legs_from (index_after c e.body) events

-- the events of a journey
abbrev pub events_on_legs : List Event → List EventOnLeg
events_on_legs events = events_on_legs_from 0 events

-- leg i of a route that begins behind leg c
abbrev pub route_leg : ℕ → List Leg → ℕ → Option Leg
route_leg c route i = if nat_lt c i then slice_get route (i - (c + 1)) else None

-- leg i as an event on leg c sets it, if it does: a plan sets all its legs, and a route of k legs sets legs c + 1 to c + k
abbrev pub leg_set : ℕ → EventBody → ℕ → Option Leg
leg_set c (Planned plan) i = slice_get plan.legs i
leg_set c (Rerouted route) i = route_leg c route i
leg_set c _ i = None

-- the minutes of leg i as an event on leg c says them, if it does: it sets the leg, or is a time for it
abbrev pub minutes_set : ℕ → EventBody → ℕ → Option ℕ
minutes_set c (LegTimed leg minutes) i = if i == leg then Some minutes else None
minutes_set c body i = option_map (λ l. l.minutes) (leg_set c body i)

-- how many legs a wagon has by an event on leg c, if that says it: those of the plan, or c + 1 + k by a route of k legs
abbrev pub count_set : ℕ → EventBody → Option ℕ
count_set c (Planned plan) = Some (length plan.legs)
count_set c (Rerouted route) = Some (c + 1 + length route)
count_set c _ = None

-- how many legs the newest event that says it gives a wagon
abbrev pub count_by_newest : List EventOnLeg → ℕ
count_by_newest events = unwrap_or (newest (λ e. count_set e.on e.says) events) 0

-- the same leg with these minutes
abbrev pub with_minutes : ℕ → Leg → Leg
with_minutes minutes leg = record leg { minutes = minutes }

-- leg i as the newest event that sets it says, with the minutes of the newest event that says them; none past the last one
abbrev pub leg_by_newest : List EventOnLeg → ℕ → Option Leg
leg_by_newest events i =
    if nat_lt i (count_by_newest events)
    then option_map (λ (l : Leg). with_minutes (unwrap_or (newest (λ e. minutes_set e.on e.says i) events) l.minutes) l) (newest (λ e. leg_set e.on e.says i) events)
    else None

-- a plan of one to eight legs
abbrev pub IsPlanOfLegs : EventBody → Type 0
IsPlanOfLegs (Planned plan) = (0 < length plan.legs) × (length plan.legs ≤ 8)
IsPlanOfLegs _ = ⊥

-- each of the events may come next, where those before it have come
abbrev pub AllAdmitted : List Event → List Event → Type 0
AllAdmitted before [] = Unit {0}
AllAdmitted before (e ∷ events) = (refusal before e.by e.body ≡ None) × AllAdmitted (before ++ e ∷ []) events

-- the journeys that a track can have: a plan, and events each of which could come next
abbrev pub IsJourney : List Event → Type 0
IsJourney [] = ⊥
IsJourney (e ∷ events) = IsPlanOfLegs e.body × AllAdmitted (e ∷ []) events

-- each event comes on the leg that is counted by those before it
abbrev pub OnLegsByCount : Type 0
OnLegsByCount = (before : List Event) (e : Event) → events_on_legs (before ++ e ∷ []) ≡ events_on_legs before ++ record { on = leg_index before; says = e.body } ∷ []

-- the legs of each journey are those that the newest events set
abbrev pub LegsAreTheNewest : Type 0
LegsAreTheNewest = (events : List Event) → IsJourney events → (i : ℕ) → leg events i ≡ leg_by_newest (events_on_legs events) i

-- and they are as many
abbrev pub AsManyLegs : Type 0
AsManyLegs = (events : List Event) → IsJourney events → length (legs events) ≡ count_by_newest (events_on_legs events)

-- a leg of this railway, from here to there
abbrev leg_of : ℕ → ℕ → ℕ → ℕ → Leg
leg_of ru origin target minutes = record { ru = ru ∷ []; origin = origin ∷ []; target = target ∷ []; minutes = minutes }

-- what the lead, the railway 1, or another says
abbrev example_event : ℕ → ℕ → EventBody → Event
example_event by number body = record { by = by ∷ []; no = number; at = None; body = body }

-- a journey: a plan of two legs, a time for the second, a route that sets the second anew, and a time for it again
abbrev pub rerouted_journey : List Event
rerouted_journey =
    example_event 1 1 (Planned (record { lead = 1 ∷ []; consignment = 7 ∷ []; load = Loaded; wagons = 5 ∷ []; legs = leg_of 2 1 2 100 ∷ leg_of 3 2 3 200 ∷ []; units = []; commit = 9000 })) ∷
    example_event 3 1 (LegTimed 1 250) ∷
    example_event 1 2 (Rerouted (leg_of 4 2 3 180 ∷ [])) ∷
    example_event 4 1 (LegTimed 1 190) ∷ []

-- the minutes of its second leg after the first n events
abbrev pub second_minutes : ℕ → Option ℕ
second_minutes n = option_map (λ l. l.minutes) (leg (take n rerouted_journey) 1)

-- a route undoes the time of a leg that it sets, and a later time stands
pub record RerouteUndoesTimes : Type 0 where
  pub is_journey : IsJourney rerouted_journey
  pub planned : second_minutes 1 ≡ Some 200
  pub timed : second_minutes 2 ≡ Some 250
  pub rerouted : second_minutes 3 ≡ Some 180
  pub timed_again : second_minutes 4 ≡ Some 190
