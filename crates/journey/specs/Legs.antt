-- The legs of a wagon, and where it is.
use Rattle.std.specs.Prelude.{ℕ, zero, suc, ◌+◌, ◌-◌, ◌≤◌, if◌then◌else◌, List, [], ◌∷◌, ◌++◌, length, fold, slice_get, take, Option, Some, None, option_map}
use Rattle.taf_codes.specs.declared.code.Railway.{Railway}
use Rattle.taf_codes.specs.declared.code.Place.{Place}
use Rattle.trip_plan.specs.declared.parts.Leg.{Leg}
use Rattle.taf_messages.specs.declared.movement.MovementKind.TheVariants.{YardArrival}
use Rattle.taf_messages.specs.declared.record.Stage.{Stage}
use Rattle.taf_messages.specs.declared.record.Stage.TheVariants as stage_is
use Rattle.journey.specs.declared.event.Event.{Event}
use Rattle.journey.specs.declared.event.EventBody.{EventBody}
use Rattle.journey.specs.declared.event.EventBody.TheVariants.{Planned, Moved, LegTimed, Offered, Answered, Withdrawn, Rerouted}
use Rattle.journey.specs.Words.{newest}
use Rattle.journey.specs.Stages.{stage, leg_index, is_reception, plan, plan_in}

-- the leg that the wagon is on, and all its legs
pub record LegPosition : Type 0 where
  pub index : ℕ
  pub legs : List Leg

-- the legs, of which leg i takes these minutes
abbrev pub with_leg_minutes : List Leg → ℕ → ℕ → List Leg
with_leg_minutes [] i minutes = []
with_leg_minutes (leg ∷ legs) zero minutes = record leg { minutes = minutes } ∷ legs
with_leg_minutes (leg ∷ legs) (suc i) minutes = leg ∷ with_leg_minutes legs i minutes

-- the legs after an event that comes on leg c: a plan sets them all, a route those after c, and a leg's time its minutes
abbrev pub legs_after : ℕ → List Leg → EventBody → List Leg
legs_after c legs (Planned plan) = plan.legs
legs_after c legs (Rerouted route) = take (c + 1) legs ++ route
legs_after c legs (LegTimed leg minutes) = with_leg_minutes legs leg minutes
legs_after c legs _ = legs

-- the leg after an event
abbrev pub index_after : ℕ → EventBody → ℕ
index_after c body = c + (if is_reception body then 1 else 0)

-- new legs, if an event on leg c sets any, make at most eight with those up to the current one
abbrev pub HasRoom : ℕ → EventBody → Type 0
HasRoom c (Rerouted route) = c + 1 + length route ≤ 8
HasRoom c _ = Unit {0}

-- the same of all events, the first of which comes on leg c
abbrev pub HaveRoom : ℕ → List Event → Type 0
HaveRoom c [] = Unit {0}
HaveRoom c (e ∷ events) = HasRoom c e.body × HaveRoom (index_after c e.body) events

-- the leg position after an event
abbrev pub leg_position_after : LegPosition → Event → LegPosition
leg_position_after leg_position e = record { index = index_after leg_position.index e.body; legs = legs_after leg_position.index leg_position.legs e.body }

-- the leg position of a journey
abbrev pub leg_position : List Event → LegPosition
leg_position events = fold leg_position_after (record { index = 0; legs = [] }) events

-- all legs of the wagon
abbrev pub legs : List Event → List Leg
legs events = (leg_position events).legs

-- leg i of the wagon
abbrev pub leg : List Event → ℕ → Option Leg
leg events i = slice_get (legs events) i

-- the leg that the wagon is on, or begins with
abbrev pub current_leg : List Event → Option Leg
current_leg events = leg events (leg_index events)

-- the railway of leg i
abbrev pub runner_of : List Event → ℕ → Option Railway
runner_of events i = option_map (λ l. l.ru) (leg events i)

-- the lead that an event brings
abbrev pub lead_in : EventBody → Option Railway
lead_in body = option_map (λ p. p.lead) (plan_in body)

-- the lead railway undertaking
abbrev pub lead_of : List Event → Option Railway
lead_of events = option_map (λ p. p.lead) (plan events)

-- the yard that an event names
abbrev pub yard_in : EventBody → Option Place
yard_in (Moved (YardArrival place)) = Some place
yard_in (Offered place to) = Some place
yard_in (Answered place received) = Some place
yard_in (Withdrawn place) = Some place
yard_in _ = None

-- the yard where it stands, or stood last
abbrev pub yard : List Event → Option Place
yard events = newest (λ e. yard_in e.body) events

-- where a wagon in this stage is: where its legs begin or end, or in the yard
abbrev pub place_in : Option Stage → List Leg → Option Place → Option Place
place_in (Some stage_is.Planned) ls yard = option_map (λ l. l.origin) (slice_get ls 0)
place_in (Some stage_is.Released) ls yard = option_map (λ l. l.origin) (slice_get ls 0)
place_in (Some stage_is.Running) ls yard = None
place_in (Some stage_is.InYard) ls yard = yard
place_in (Some stage_is.Offered) ls yard = yard
place_in (Some stage_is.Arrived) ls yard = option_map (λ l. l.target) (slice_get ls (length ls - 1))
place_in (Some stage_is.Delivered) ls yard = option_map (λ l. l.target) (slice_get ls (length ls - 1))
place_in None ls yard = None

-- where the wagon is, if it is at a place
abbrev pub place : List Event → Option Place
place events = place_in (stage events) (legs events) (yard events)
