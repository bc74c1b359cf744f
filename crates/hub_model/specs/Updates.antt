-- What a call with its reply changes of all that is looked up.
use Rattle.std.specs.Prelude.{ℕ, ◌==◌, Bool, true, false, not, if◌then◌else◌, List, [], ◌∷◌, ◌++◌, filter, Option, Some, None, is_some, unwrap_or, bytes_eq}
use Rattle.std.specs.Option.{option_or}
use Rattle.hub_model.specs.Common.{Railway, UnitCode, ConsignmentId, Trip, has, loads, Call, Send, Ack, Reply, Accepted, Acknowledged, Message, Body, Offer, same_name}
use Rattle.taf_messages.specs.declared.message.Body.TheVariants as body
use Rattle.hub_model.specs.declared.entry.Entry.{Entry}
use Rattle.hub_model.specs.HubState.{HubState, journey_after}
use Rattle.hub_model.specs.Items.{items_of, items_to}

-- what a message gives to be looked up: the plan of a consignment or of a unit, and the offer of a name
abbrev pub plan_given : Body → ConsignmentId → Option Trip
plan_given (body.Plan p) c = if bytes_eq p.consignment c then Some p else None
plan_given _ c = None

-- a plan is the plan of each unit that it loads
abbrev pub unit_plan_given : Body → UnitCode → Option Trip
unit_plan_given (body.Plan p) u = if loads p.units u then Some p else None
unit_plan_given _ u = None

-- an offer is found by its own name
abbrev pub offer_given : Message → Body → Railway → ℕ → Option Offer
offer_given m (body.Offer o) by n =
    if same_name m.by m.no by n
    then Some (record { by = m.by; no = m.no; to = o.to; place = o.place; wagons = o.wagons })
    else None
offer_given m _ by n = None

-- a message makes the offer of a name open, or closed
abbrev pub opening_given : Message → Body → Railway → ℕ → Option Bool
opening_given m (body.Offer o) by n = if same_name m.by m.no by n then Some true else None
opening_given m (body.Answer a) by n = if same_name a.offerer a.offer by n then Some false else None
opening_given m (body.Withdraw at k) by n = if same_name m.by k by n then Some false else None
opening_given m _ by n = None

-- each wagon once, where it comes first
abbrev pub each_wagon : List ℕ → List ℕ
each_wagon [] = []
each_wagon (w ∷ wagons) = w ∷ filter (λ v. not (w == v)) (each_wagon wagons)

-- the wagons that a message plans
abbrev pub planned_in : Body → List ℕ
planned_in (body.Plan p) = p.wagons
planned_in _ = []

-- the fleet, once a message has planned these wagons
abbrev pub fleet_after : List ℕ → List ℕ → List ℕ
fleet_after before wagons = before ++ filter (λ w. not (has before w)) (each_wagon wagons)

-- once the message is accepted
abbrev pub after_acceptance : HubState → Message → HubState
after_acceptance s m = record s {
  journey = journey_after s m;
  plan_of = λ c. option_or (plan_given m.body c) (s.plan_of c);
  unit_plan = λ u. option_or (unit_plan_given m.body u) (s.unit_plan u);
  offer = λ by n. option_or (offer_given m m.body by n) (s.offer by n);
  is_open = λ by n. unwrap_or (opening_given m m.body by n) (s.is_open by n);
  outbox = λ r. s.outbox r ++ items_to r (items_of s m);
  fleet = fleet_after s.fleet (planned_in m.body);
}

-- once the message with its reply is the first of its name
abbrev pub with_first_send : HubState → Message → Reply → HubState
with_first_send s m reply = record s {
  first_send = λ by n. if same_name m.by m.no by n then Some (record { message = m; reply = reply }) else s.first_send by n;
}

-- once the railway has acknowledged the item
abbrev pub with_acknowledgement : HubState → Railway → ℕ → HubState
with_acknowledgement s by n = record s { acknowledged = λ r. if bytes_eq by r then n else s.acknowledged r }

-- the reply accepts the message
abbrev pub is_accepted : Reply → Bool
is_accepted (Accepted n) = true
is_accepted _ = false

-- once a new message has got the reply
abbrev pub after_new : HubState → Message → Reply → HubState
after_new s m reply = with_first_send (if is_accepted reply then after_acceptance s m else s) m reply

-- once the call has got the reply
abbrev pub after_call : HubState → Call → Reply → HubState
after_call s (Send m) reply = if is_some (s.first_send m.by m.no) then s else after_new s m reply
after_call s (Ack by k) (Acknowledged n) = with_acknowledgement s by n
after_call s _ _ = s

-- once the entry is in the history
abbrev pub after : HubState → Entry → HubState
after s e = after_call s e.call e.reply
