-- Who is shown records, and who gets items (4.2.6, 4.2.7, 4.2.8, 4.2.11).
use Rattle.std.specs.Prelude.{◌≡◌, ◌⊎◌, ℕ, ◌+◌, Bool, true, false, List, [], ◌∷◌, ◌++◌, length, drop, Option, Some, None, IsSome, is_some, option_map, option_and_then, All, Contains}
use Rattle.hub_model.specs.Common.{Railway, UnitCode, ConsignmentId, has, Call, Send, Ask, AskUnit, Deviation, Fetch, Ack, Reply, Accepted, Refused, One, Many, Items, Item, ItemBody, Message, Body, Record, Event, leg_index, stage, responsible, is_on_its_way, legs, lead_of, asked_by, record_of, numbered_items}
use Rattle.taf_messages.specs.declared.item.ItemBody.TheVariants as item
use Rattle.taf_messages.specs.declared.message.Body.TheVariants as body
use Rattle.hub_model.specs.HubState.{HubState, named_wagons, journey_after}
use Rattle.hub_model.specs.Units.{unit_wagon}
use Rattle.hub_model.specs.Faults.{fault, is_unknown}
use Rattle.hub_model.specs.Items.{runners, items_of}
use Rattle.hub_model.specs.Replies.{reply_to}
use Rattle.hub_model.specs.Histories.{state_after}
use Rattle.hub_model.specs.AcceptedMessages.{accepts}

-- the railway is of the wagon's trip: its lead, or the railway of one of its legs
abbrev pub IsOfTrip : List Event → Railway → Type 0
IsOfTrip events r = (lead_of events ≡ Some r) ⊎ Contains (runners (legs events)) r

-- the railway is the lead of the plan of the consignment
abbrev pub IsLead : HubState → ConsignmentId → Railway → Type 0
IsLead s c r = option_map (λ p. p.lead) (s.plan_of c) ≡ Some r

-- a question shows the record of a wagon to a railway of its trip alone, and deviations to the lead alone (4.2.11)
pub record IsShownTo (s : HubState) (by : Railway) : Type 0 where
  pub wagon : (w : ℕ) (r : Record) → reply_to s (Ask by w) ≡ One r → IsOfTrip (s.journey r.wagon) by
  pub unit : (u : UnitCode) (r : Record) → reply_to s (AskUnit by u) ≡ One r → IsOfTrip (s.journey r.wagon) by
  pub deviations : (c : ConsignmentId) (rs : List Record) → reply_to s (Deviation by c) ≡ Many rs → IsLead s c by

-- so it is for whoever asks, whatever is known
abbrev pub RecordsAreForTheTrip : Type 0
RecordsAreForTheTrip = (s : HubState) (by : Railway) → IsShownTo s by

-- the sender of a call
abbrev pub sender_of : Call → Railway
sender_of (Send m) = m.by
sender_of (Ask by w) = by
sender_of (AskUnit by u) = by
sender_of (Deviation by c) = by
sender_of (Fetch by limit) = by
sender_of (Ack by n) = by

-- the records that a reply shows
abbrev pub records_in : Reply → List Record
records_in (One r) = r ∷ []
records_in (Many rs) = rs
records_in _ = []

-- the items that a reply shows
abbrev pub items_in : Reply → List Item
items_in (Items is) = is
items_in _ = []

-- the record is that of its wagon, and the railway is of the wagon's trip
pub record IsOfOwnTrip (s : HubState) (by : Railway) (r : Record) : Type 0 where
  pub is_its_record : record_of r.wagon (s.journey r.wagon) ≡ Some r
  pub of_trip : IsOfTrip (s.journey r.wagon) by

-- the reply to the call shows records of the sender's own trips alone, and items of its own outbox alone
pub record ShowsTheirOwn (s : HubState) (call : Call) : Type 0 where
  pub records : All (IsOfOwnTrip s (sender_of call)) (records_in (reply_to s call))
  pub items : All (Contains (numbered_items (s.outbox (sender_of call)))) (items_in (reply_to s call))

-- so does the reply to each call, whatever calls came before
abbrev pub RepliesShowTheirOwn : Type 0
RepliesShowTheirOwn = (calls : List Call) (call : Call) → ShowsTheirOwn (state_after calls) call

-- the reply accepts a message or refuses it, and shows nothing else
abbrev pub is_verdict : Reply → Bool
is_verdict (Accepted number) = true
is_verdict (Refused r) = true
is_verdict _ = false

-- each message gets such a reply, the first time and again
abbrev pub MessagesGetVerdicts : Type 0
MessagesGetVerdicts = (calls : List Call) (m : Message) → is_verdict (reply_to (state_after calls) (Send m)) ≡ true

-- the railway is of the wagon's trip, or answers for the wagon
abbrev pub IsInvolved : List Event → Railway → Type 0
IsInvolved events r = IsOfTrip events r ⊎ (responsible events ≡ Some r)

-- the message names the railway: for a leg, as the one that an offer asks or that made it, or as the infrastructure manager
abbrev pub NamesRailway : HubState → Message → Body → Railway → Type 0
NamesRailway s m (body.Plan p) r = Contains (runners p.legs) r
NamesRailway s m (body.Reroute w route) r = Contains (runners route) r
NamesRailway s m (body.Offer o) r = o.to ≡ r
NamesRailway s m (body.Answer a) r = (a.offerer ≡ r) ⊎ (a.manager ≡ Some r)
NamesRailway s m (body.Withdraw at n) r = asked_by (s.offer m.by n) ≡ Some r
NamesRailway s m _ r = ⊥

-- the message is a reroute that takes a leg of the railway away
abbrev pub IsTakenOff : HubState → Body → ℕ → Railway → Type 0
IsTakenOff s (body.Reroute v route) w r = Contains (runners (drop (leg_index (s.journey w) + 1) (legs (s.journey w)))) r
IsTakenOff s _ w r = ⊥

-- after the message the railway is involved in a wagon that the message names, or the message takes a leg of it away
abbrev pub IsInvolvedIn : HubState → Message → Railway → Type 0
IsInvolvedIn s m r =
    (w : ℕ) × (has (named_wagons s.offer m) w ≡ true) × (IsInvolved (journey_after s m w) r ⊎ IsTakenOff s m.body w r)

-- the message concerns the railway; the notice of an answer goes to the leads of all its wagons, and shows each lead those of the others too
abbrev pub Concerns : HubState → Message → Railway → Type 0
Concerns s m r = NamesRailway s m m.body r ⊎ IsInvolvedIn s m r

-- each item that a message makes goes to a railway that the message concerns
abbrev pub ItemsGoToTheConcerned : Type 0
ItemsGoToTheConcerned = (s : HubState) (m : Message) → All (λ i. Concerns s m i.to) (items_of s m)

-- the wagon of an estimate or an alert
abbrev pub estimated_wagon : ItemBody → Option ℕ
estimated_wagon (item.Eti w leg at) = Some w
estimated_wagon (item.Eta w at) = Some w
estimated_wagon (item.AlertBegins w minutes) = Some w
estimated_wagon (item.AlertEnds w) = Some w
estimated_wagon _ = None

-- each estimate and each alert goes to a railway that is involved in its wagon after the message
abbrev pub EstimatesStayOnTheTrip : Type 0
EstimatesStayOnTheTrip = (s : HubState) (m : Message) →
    All (λ i. (w : ℕ) → estimated_wagon i.body ≡ Some w → IsInvolved (journey_after s m w) i.to) (items_of s m)

-- the item's source: an accepted message of the calls, which made the item for the railway and concerned it
pub record HasSource (calls : List Call) (r : Railway) (i : ItemBody) : Type 0 where
  pub before : List Call
  pub message : Message
  pub later : List Call
  pub sent : calls ≡ before ++ Send message ∷ later
  pub accepted : accepts (state_after before) message ≡ true
  pub made : Contains (items_of (state_after before) message) (record { to = r; body = i })
  pub concerned : Concerns (state_after before) message r

-- whatever calls came, each item of an outbox has one
abbrev pub ItemsHaveSources : Type 0
ItemsHaveSources = (calls : List Call) (r : Railway) → All (HasSource calls r) ((state_after calls).outbox r)

-- the question is for what is known: a wagon with a record, a unit on such a wagon, a consignment with a plan
abbrev pub is_known : HubState → Call → Bool
is_known s (Ask by w) = is_some (record_of w (s.journey w))
is_known s (AskUnit by u) = is_some (option_and_then (λ w. record_of w (s.journey w)) (unit_wagon s u))
is_known s (Deviation by c) = is_some (s.plan_of c)
is_known s _ = false

-- the call is a question of an outsider: of a railway that is not of the trip, or not the lead of the consignment's plan
abbrev pub IsByOutsider : HubState → Call → Type 0
IsByOutsider s (Ask by w) = IsOfTrip (s.journey w) by → ⊥
IsByOutsider s (AskUnit by u) = (w : ℕ) → unit_wagon s u ≡ Some w → IsOfTrip (s.journey w) by → ⊥
IsByOutsider s (Deviation by c) = IsLead s c by → ⊥
IsByOutsider s _ = ⊥

-- an outsider learns whether what it asks for is known, and nothing else
abbrev pub OutsidersLearnWhetherKnown : Type 0
OutsidersLearnWhetherKnown = (s t : HubState) (call : Call) → IsByOutsider s call → IsByOutsider t call →
    is_known s call ≡ is_known t call → reply_to s call ≡ reply_to t call

-- the wagon of a message that is of a single wagon by its kind
abbrev pub only_wagon : Body → Option ℕ
only_wagon (body.Movement m) = Some m.wagon
only_wagon (body.EtiAsk w) = Some w
only_wagon (body.LegTime w leg minutes) = Some w
only_wagon (body.Reroute w route) = Some w
only_wagon _ = None

-- both journeys are known or neither is, they are in the same stage, on their way or not, and have as many legs
pub record LookAlike (before after : List Event) : Type 0 where
  pub known : is_unknown before ≡ is_unknown after
  pub in_stage : stage before ≡ stage after
  pub on_its_way : is_on_its_way before ≡ is_on_its_way after
  pub as_many : length (legs before) ≡ length (legs after)

-- a new message of one wagon is refused to a railway that is not involved in it, and the refusal tells no more than these
abbrev pub RefusalsTellTheStage : Type 0
RefusalsTellTheStage = (s t : HubState) (m : Message) (w : ℕ) → only_wagon m.body ≡ Some w →
    (IsInvolved (s.journey w) m.by → ⊥) → (IsInvolved (t.journey w) m.by → ⊥) → LookAlike (s.journey w) (t.journey w) →
    IsSome (fault s m) × (fault s m ≡ fault t m)
