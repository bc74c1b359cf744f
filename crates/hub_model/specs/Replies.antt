-- What the hub replies to each call (4.2.6, 4.2.7, 4.2.8, 4.2.11).
use Rattle.std.specs.Prelude.{ℕ, max, ◌&&◌, if◌then◌else◌, List, length, filter, filter_map, Option, Some, None, bytes_eq}
use Rattle.hub_model.specs.Common.{Railway, Trip, Call, Send, Ask, AskUnit, Deviation, Fetch, Ack, Reply, Accepted, refused, One, Many, Items, Acknowledged, Why, UnknownWagon, UnknownConsignment, UnknownUnit, NotYours, NumberReused, AckAhead, Message, Record, same_message, Event, is_late, items_to_fetch, is_ahead, record_of, may_see}
use Rattle.hub_model.specs.HubState.{HubState, FirstSend}
use Rattle.hub_model.specs.Units.{is_on_plan, unit_wagon}
use Rattle.hub_model.specs.declared.fault.Fault.{Fault}
use Rattle.hub_model.specs.Faults.{fault}

-- a call that is no send is refused
abbrev pub refusal_reply : Why → Option ℕ → Reply
refusal_reply why wagon = refused None why wagon None

-- the reply to a new message
abbrev pub verdict : ℕ → Option Fault → Reply
verdict number None = Accepted number
verdict number (Some f) = refused (Some number) f.why f.wagon None

-- the reply to a message whose number its sender used before, or did not
abbrev pub send_reply : HubState → Message → Option FirstSend → Reply
send_reply s m None = verdict m.no (fault s m)
send_reply s m (Some first) = if same_message first.message m then first.reply else refused (Some m.no) NumberReused None None

-- the reply to one who asks for a record, which may not be there, and where it is may not be seen
abbrev pub record_reply : Railway → List Event → Option Record → Reply → Reply → Reply
record_reply by events None unknown unseen = unknown
record_reply by events (Some r) unknown unseen = if may_see events by then One r else unseen

-- the reply to one who asks for a wagon (4.2.11)
abbrev pub ask_reply : HubState → Railway → ℕ → Reply
ask_reply s by w = record_reply by (s.journey w) (record_of w (s.journey w)) (refusal_reply UnknownWagon (Some w)) (refusal_reply NotYours (Some w))

-- the reply to one who asks for a unit, given its wagon (4.2.11)
abbrev pub unit_reply : HubState → Railway → Option ℕ → Reply
unit_reply s by None = refusal_reply UnknownUnit None
unit_reply s by (Some w) = record_reply by (s.journey w) (record_of w (s.journey w)) (refusal_reply UnknownUnit None) (refusal_reply NotYours None)

-- the late wagons of the plan that are still on it
abbrev pub deviating_records : HubState → Trip → List Record
deviating_records s p =
    filter_map (λ w. record_of w (s.journey w))
    (filter (λ w. is_late (s.journey w) && is_on_plan (s.journey w) p) p.wagons)

-- the reply to one who asks for the deviations of a plan (4.2.6)
abbrev pub deviation_reply : HubState → Railway → Option Trip → Reply
deviation_reply s by None = refusal_reply UnknownConsignment None
deviation_reply s by (Some p) = if bytes_eq p.lead by then Many (deviating_records s p) else refusal_reply NotYours None

-- the reply to an acknowledgement
abbrev pub ack_reply : HubState → Railway → ℕ → Reply
ack_reply s by n =
    if is_ahead (s.outbox by) n
    then refused None AckAhead None (Some (length (s.outbox by)))
    else Acknowledged (max (s.acknowledged by) n)

-- the reply to a call
abbrev pub reply_to : HubState → Call → Reply
reply_to s (Send m) = send_reply s m (s.first_send m.by m.no)
reply_to s (Ask by w) = ask_reply s by w
reply_to s (AskUnit by u) = unit_reply s by (unit_wagon s u)
reply_to s (Deviation by c) = deviation_reply s by (s.plan_of c)
reply_to s (Fetch by limit) = Items (items_to_fetch (s.outbox by) (s.acknowledged by) limit)
reply_to s (Ack by n) = ack_reply s by n

-- the records of wagons
abbrev pub records_of : HubState → List ℕ → List Record
records_of s wagons = filter_map (λ w. record_of w (s.journey w)) wagons

-- the records of all wagons that were planned, in the order of their first plans
abbrev pub view : HubState → List Record
view s = records_of s s.fleet
