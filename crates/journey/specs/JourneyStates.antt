-- What the events of a journey come to: all that a further event is judged by (4.2.7, 4.2.8).
use Rattle.std.specs.Prelude.{ℕ, Bool, false, not, ◌||◌, ◌&&◌, if◌then◌else◌, List, slice_get, Option, Some, None, option_map, unwrap_or}
use Rattle.std.specs.Option.{option_or}
use Rattle.taf_codes.specs.declared.code.Railway.{Railway}
use Rattle.taf_codes.specs.declared.code.Place.{Place}
use Rattle.trip_plan.specs.Trip.{Trip}
use Rattle.trip_plan.specs.declared.parts.Leg.{Leg}
use Rattle.taf_messages.specs.declared.record.Stage.TheVariants as stage_is
use Rattle.journey.specs.declared.event.Event.{Event}
use Rattle.journey.specs.declared.event.EventBody.{EventBody}
use Rattle.journey.specs.declared.journey_state.JourneyState.{JourneyState}
use Rattle.journey.specs.declared.earlier_state.EarlierState.{EarlierState}
use Rattle.journey.specs.Words.{newest}
use Rattle.journey.specs.Stages.{stage, stage_after, leg_index, has_departed, is_delivered, is_departure, is_delivery, new_responsible}
use Rattle.journey.specs.Legs.{legs, legs_after, index_after, lead_of, lead_in, yard, yard_in}

-- the state that a journey has come to
abbrev pub journey_state : List Event → JourneyState
journey_state events = record {
  stage = stage events;
  leg_index = leg_index events;
  legs = legs events;
  lead = lead_of events;
  has_departed = has_departed events;
  is_delivered = is_delivered events;
  last_receiver = newest (λ e. new_responsible e.by e.body) events;
  yard = yard events;
}

-- the state that a plan leads to
abbrev pub planned_state : Trip → JourneyState
planned_state plan = record {
  stage = Some stage_is.Planned;
  leg_index = 0;
  legs = plan.legs;
  lead = Some plan.lead;
  has_departed = false;
  is_delivered = false;
  last_receiver = None;
  yard = None;
}

-- the state after what a railway says of the wagon
abbrev pub journey_state_by : JourneyState → Railway → EventBody → JourneyState
journey_state_by s by body = record {
  stage = option_or (stage_after body) s.stage;
  leg_index = index_after s.leg_index body;
  legs = legs_after s.leg_index s.legs body;
  lead = option_or (lead_in body) s.lead;
  has_departed = s.has_departed || is_departure body;
  is_delivered = s.is_delivered || is_delivery body;
  last_receiver = option_or (new_responsible by body) s.last_receiver;
  yard = option_or (yard_in body) s.yard;
}

-- the state after one event more
abbrev pub journey_state_after : JourneyState → Event → JourneyState
journey_state_after s e = journey_state_by s e.by e.body

-- the wagon has departed, and was not delivered
abbrev pub on_its_way : JourneyState → Bool
on_its_way s = s.has_departed && not s.is_delivered

-- the railway that answers for the wagon, while it is on its way
abbrev pub responsible_in : JourneyState → Option Railway
responsible_in s = if on_its_way s then s.last_receiver else None

-- the railway of leg i
abbrev pub runner_in : JourneyState → ℕ → Option Railway
runner_in s i = option_map (λ l. l.ru) (slice_get s.legs i)

-- where the current leg ends
abbrev pub target_in : JourneyState → Option Place
target_in s = option_map (λ l. l.target) (slice_get s.legs s.leg_index)

-- the state before the newest event, by what was kept of it and the legs that there are with the event
abbrev pub earlier_state : EarlierState → List Leg → JourneyState
earlier_state earlier now = record {
  stage = earlier.stage;
  leg_index = earlier.leg_index;
  legs = unwrap_or earlier.legs now;
  lead = earlier.lead;
  has_departed = earlier.has_departed;
  is_delivered = earlier.is_delivered;
  last_receiver = earlier.last_receiver;
  yard = earlier.yard;
}
