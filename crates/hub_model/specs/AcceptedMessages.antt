-- The lists that the look-ups are of, without any state that is carried along.
use Rattle.std.specs.Prelude.{◌≡◌, ℕ, max, Bool, false, not, ◌&&◌, if◌then◌else◌, List, [], ◌∷◌, ◌++◌, fold, filter_map, flat_map, Option, Some, None, is_none, bytes_eq}
use Rattle.std.specs.List.{list_any}
use Rattle.hub_model.specs.Common.{Railway, UnitCode, ConsignmentId, has, Call, Send, Ack, Reply, Message, Body, Event, newest, oldest, from_last, is_plan, is_ahead, same_name}
use Rattle.taf_messages.specs.declared.message.Body.TheVariants as body
use Rattle.hub_model.specs.declared.entry.Entry.{Entry}
use Rattle.hub_model.specs.HubState.{HubState, FirstSend, Offers, new_state, named_wagons, event_for}
use Rattle.hub_model.specs.Faults.{fault}
use Rattle.hub_model.specs.declared.addressed_item.AddressedItem.{AddressedItem}
use Rattle.hub_model.specs.Items.{items_of, items_to}
use Rattle.hub_model.specs.Replies.{reply_to}
use Rattle.hub_model.specs.Updates.{plan_given, unit_plan_given, offer_given, planned_in, each_wagon}
use Rattle.hub_model.specs.Histories.{step, state_after}

-- the message is new, and has no fault
abbrev pub accepts : HubState → Message → Bool
accepts s m = is_none (s.first_send m.by m.no) && is_none (fault s m)

-- the message of a call that is accepted
abbrev pub accepted_message : HubState → Call → List Message
accepted_message s (Send m) = if accepts s m then m ∷ [] else []
accepted_message s _ = []

-- the accepted messages: each send that is new and has no fault after the calls before it
abbrev pub accepted_from : HubState → List Call → List Message
accepted_from s [] = []
accepted_from s (call ∷ calls) = accepted_message s call ++ accepted_from (step s call) calls

-- those of calls to a new hub
abbrev pub accepted_in : List Call → List Message
accepted_in calls = accepted_from new_state calls

-- the accepted offers
abbrev pub offers_in : List Message → Offers
offers_in messages by n = newest (λ m. offer_given m m.body by n) messages

-- the wagon's event of a message, if the message names the wagon
abbrev pub event_if_named : Offers → Message → ℕ → Option Event
event_if_named offers m w = if has (named_wagons offers m) w then Some (event_for offers m w) else None

-- the events that a wagon has of messages, by the offers among them
abbrev pub events_from : List Message → ℕ → List Event
events_from messages w = filter_map (λ m. event_if_named (offers_in messages) m w) messages

-- the message makes the offer of this name
abbrev pub makes_offer : Railway → ℕ → Message → Body → Bool
makes_offer by n m (body.Offer o) = same_name m.by m.no by n
makes_offer by n m _ = false

-- it answers or withdraws the offer of this name
abbrev pub closes_offer : Railway → ℕ → Message → Body → Bool
closes_offer by n m (body.Answer a) = same_name a.offerer a.offer by n
closes_offer by n m (body.Withdraw at k) = same_name m.by k by n
closes_offer by n m _ = false

-- one of the messages makes the offer
abbrev pub is_offer_made : List Message → Railway → ℕ → Bool
is_offer_made messages by n = list_any (λ m. makes_offer by n m m.body) messages

-- one of the messages answers or withdraws the offer
abbrev pub is_offer_closed : List Message → Railway → ℕ → Bool
is_offer_closed messages by n = list_any (λ m. closes_offer by n m m.body) messages

-- an offer is open when it was accepted, and no accepted message answers or withdraws it
abbrev pub is_open_in : List Message → Railway → ℕ → Bool
is_open_in messages by n = is_offer_made messages by n && not (is_offer_closed messages by n)

-- a call, if it is a send of this name, with the reply that it got
abbrev pub send_of_name : Railway → ℕ → Call → Reply → Option FirstSend
send_of_name by n (Send m) reply = if same_name m.by m.no by n then Some (record { message = m; reply = reply }) else None
send_of_name by n _ reply = None

-- the calls with the replies that they got
abbrev pub entries_from : HubState → List Call → List Entry
entries_from s [] = []
entries_from s (call ∷ calls) = record { call = call; reply = reply_to s call } ∷ entries_from (step s call) calls

-- the number that a call of this railway acknowledges, unless it is ahead
abbrev pub acknowledged_by : HubState → Railway → Call → List ℕ
acknowledged_by s r (Ack by n) = if bytes_eq by r && not (is_ahead (s.outbox by) n) then n ∷ [] else []
acknowledged_by s r _ = []

-- all numbers that a railway acknowledged
abbrev pub acknowledged_from : HubState → Railway → List Call → List ℕ
acknowledged_from s r [] = []
acknowledged_from s r (call ∷ calls) = acknowledged_by s r call ++ acknowledged_from (step s call) r calls

-- the greatest of the numbers, and 0 where there is none
abbrev pub greatest : List ℕ → ℕ
greatest numbers = fold max 0 numbers

-- the items of all accepted messages, in order
abbrev pub items_from : HubState → List Call → List AddressedItem
items_from s [] = []
items_from s (call ∷ calls) = flat_map (items_of s) (accepted_message s call) ++ items_from (step s call) calls

-- each look-up is what its list says
pub record AreOfTheLists (s : HubState) (calls : List Call) : Type 0 where
  pub journey : (w : ℕ) → s.journey w ≡ from_last (λ e. is_plan e.body) (events_from (accepted_in calls) w)
  pub plan_of : (c : ConsignmentId) → s.plan_of c ≡ newest (λ m. plan_given m.body c) (accepted_in calls)
  pub unit_plan : (u : UnitCode) → s.unit_plan u ≡ newest (λ m. unit_plan_given m.body u) (accepted_in calls)
  pub offer : (by : Railway) (n : ℕ) → s.offer by n ≡ offers_in (accepted_in calls) by n
  pub is_open : (by : Railway) (n : ℕ) → s.is_open by n ≡ is_open_in (accepted_in calls) by n
  pub first_send : (by : Railway) (n : ℕ) → s.first_send by n ≡ oldest (λ e. send_of_name by n e.call e.reply) (entries_from new_state calls)
  pub acknowledged : (r : Railway) → s.acknowledged r ≡ greatest (acknowledged_from new_state r calls)
  pub outbox : (r : Railway) → s.outbox r ≡ items_to r (items_from new_state calls)
  pub fleet : s.fleet ≡ each_wagon (flat_map (λ m. planned_in m.body) (accepted_in calls))

-- what is known after calls is what the lists of accepted messages, sends and acknowledgements say
abbrev pub LookupsAreTheLists : Type 0
LookupsAreTheLists = (calls : List Call) → AreOfTheLists (state_after calls) calls
