-- What a track and a transition keep.
use Rattle.std.specs.Prelude.{◌≡◌, ◌+◌, ◌-◌, ◌<◌, ◌≤◌, true, false, List, [], ◌∷◌, length, take, Option, Some, None, is_some}
use Rattle.trip_plan.specs.Trip.{Trip}
use Rattle.taf_messages.specs.declared.record.Stage.TheVariants as stage_is
use Rattle.journey.specs.declared.event.Event.{Event}
use Rattle.journey.specs.declared.journey_state.JourneyState.{JourneyState}
use Rattle.journey.specs.Stages.{plan, plan_in, has_later_plan}
use Rattle.journey.specs.Legs.{HaveRoom}
use Rattle.journey.specs.NewestLegs.{IsJourney}
use Rattle.journey.specs.JourneyStates.{journey_state}

-- the wagon is on one of its legs, of which there are at most eight, and is offered only where there is a next one
pub record IsSound (s : JourneyState) : Type 0 where
  pub staged : is_some s.stage ≡ true
  pub on_a_leg : s.leg_index < length s.legs
  pub few_legs : length s.legs ≤ 8
  pub next_leg : s.stage ≡ Some stage_is.Offered → s.leg_index + 1 < length s.legs

-- the plan that the first event brings
abbrev pub first_plan : List Event → Option Trip
first_plan [] = None
first_plan (e ∷ events) = plan_in e.body

-- the first event is the only plan of the journey, each further one could come next, and the kept state is that of the events
pub record IsTrackState (events : List Event) (s : JourneyState) : Type 0 where
  pub planned : is_some (first_plan events) ≡ true
  pub one_plan : plan events ≡ first_plan events
  pub no_later_plan : has_later_plan events ≡ false
  pub is_journey : IsJourney events
  pub have_room : HaveRoom 0 events
  pub state_is : s ≡ journey_state events
  pub sound : IsSound s

-- the events but the last
abbrev pub without_newest : List Event → List Event
without_newest events = take (length events - 1) events
