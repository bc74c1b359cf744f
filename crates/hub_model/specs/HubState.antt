-- What the hub has to look up, and what a message says of the wagons that it names (4.2.7, 4.2.8).
use Rattle.std.specs.Prelude.{ℕ, Bool, false, if◌then◌else◌, List, [], ◌∷◌, ◌++◌, Option, None}
use Rattle.hub_model.specs.Common.{WagonNumber, Railway, UnitCode, ConsignmentId, Trip, has, Reply, ItemBody, Message, Body, moment_in, Event, EventBody, Planned, Moved, EstimateAsked, LegTimed, Offered, Answered, Withdrawn, Rerouted, is_plan, Offer, wagons_of, place_of}
use Rattle.taf_messages.specs.declared.message.Body.TheVariants as body

-- a send, and the reply that it got
pub record FirstSend : Type 0 where
  pub message : Message
  pub reply : Reply

-- the accepted offer of a sender and a number
abbrev pub Offers : Type 0
Offers = Railway → ℕ → Option Offer

-- what is known after a history
pub record HubState : Type 0 where
  -- the events of a wagon's journey, oldest first
  pub journey : WagonNumber → List Event
  -- the accepted plan of a consignment
  pub plan_of : ConsignmentId → Option Trip
  -- the last accepted plan that loads an intermodal unit
  pub unit_plan : UnitCode → Option Trip
  -- the accepted offer of a sender and a number, and whether it is open
  pub offer : Offers
  pub is_open : Railway → ℕ → Bool
  -- the first send of a sender and a number
  pub first_send : Railway → ℕ → Option FirstSend
  -- the number of the last item that a railway acknowledged, and all its items, oldest first
  pub acknowledged : Railway → ℕ
  pub outbox : Railway → List ItemBody
  -- all wagons that were planned, in the order of their first plans
  pub fleet : List WagonNumber

-- what a new hub knows
abbrev pub new_state : HubState
new_state = record {
  journey = λ w. [];
  plan_of = λ c. None;
  unit_plan = λ u. None;
  offer = λ by n. None;
  is_open = λ by n. false;
  first_send = λ by n. None;
  acknowledged = λ r. 0;
  outbox = λ r. [];
  fleet = [];
}

-- the wagons that a message of this sender names, in its order
abbrev pub wagons_in : Offers → Railway → Body → List ℕ
wagons_in offers by (body.Plan p) = p.wagons
wagons_in offers by (body.Movement m) = m.wagon ∷ []
wagons_in offers by (body.EtiAsk w) = w ∷ []
wagons_in offers by (body.LegTime w leg minutes) = w ∷ []
wagons_in offers by (body.Offer o) = o.wagons
wagons_in offers by (body.Answer a) = a.received ++ a.refused
wagons_in offers by (body.Withdraw at n) = wagons_of (offers by n)
wagons_in offers by (body.Reroute w route) = w ∷ []

-- what a message of this sender says of a wagon that it names
abbrev pub event_body_for : Offers → Railway → Body → ℕ → EventBody
event_body_for offers by (body.Plan p) w = Planned p
event_body_for offers by (body.Movement m) w = Moved m.what
event_body_for offers by (body.EtiAsk v) w = EstimateAsked
event_body_for offers by (body.LegTime v leg minutes) w = LegTimed leg minutes
event_body_for offers by (body.Offer o) w = Offered o.place o.to
event_body_for offers by (body.Answer a) w = Answered (place_of (offers a.offerer a.offer)) (has a.received w)
event_body_for offers by (body.Withdraw at n) w = Withdrawn (place_of (offers by n))
event_body_for offers by (body.Reroute v route) w = Rerouted route

-- the wagons that a message names
abbrev pub named_wagons : Offers → Message → List ℕ
named_wagons offers m = wagons_in offers m.by m.body

-- the wagon's event of a message that names it
abbrev pub event_for : Offers → Message → ℕ → Event
event_for offers m w = record { by = m.by; no = m.no; at = moment_in m.body; body = event_body_for offers m.by m.body w }

-- a plan begins a journey anew, and any other event goes on with one
abbrev pub with_event : List Event → Event → List Event
with_event [] e = if is_plan e.body then e ∷ [] else []
with_event (first ∷ events) e = if is_plan e.body then e ∷ [] else first ∷ events ++ e ∷ []

-- the wagon's events once the message is accepted
abbrev pub journey_after : HubState → Message → ℕ → List Event
journey_after s m w = if has (named_wagons s.offer m) w then with_event (s.journey w) (event_for s.offer m w) else s.journey w
