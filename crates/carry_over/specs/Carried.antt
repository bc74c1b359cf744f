-- What stays the same where only the messages of some names are kept.
use Rattle.std.specs.Prelude.{◌≡◌, ℕ, true, false, if◌then◌else◌, List, [], ◌∷◌, ◌++◌, filter, flat_map}
use Rattle.hub_model.specs.Common.{Railway, UnitCode, ConsignmentId, Call, Message, Send, Ask, AskUnit, Deviation, Fetch, Ack}
use Rattle.hub_model.specs.declared.addressed_item.AddressedItem.{AddressedItem}
use Rattle.hub_model.specs.HubState.{HubState, new_state}
use Rattle.hub_model.specs.Items.{items_of, items_to}
use Rattle.hub_model.specs.Replies.{reply_to, records_of, view}
use Rattle.hub_model.specs.Histories.{step, state_after}
use Rattle.hub_model.specs.AcceptedMessages.{accepted_message}
use Rattle.hub_model.specs.Overtaking.{AreApart}
use Rattle.carry_over.specs.Names.{Names, IsOnOneSide, Divide, is_of, stays, messages_of}

-- the same is looked up of these names
pub record AreSameFor (names : Names) (s t : HubState) : Type 0 where
  pub journey : (w : ℕ) → names.wagon w ≡ true → s.journey w ≡ t.journey w
  pub plan_of : (c : ConsignmentId) → names.consignment c ≡ true → s.plan_of c ≡ t.plan_of c
  pub unit_plan : (u : UnitCode) → names.unit u ≡ true → s.unit_plan u ≡ t.unit_plan u
  pub offer : (by : Railway) (n : ℕ) → names.message by n ≡ true → s.offer by n ≡ t.offer by n
  pub is_open : (by : Railway) (n : ℕ) → names.message by n ≡ true → s.is_open by n ≡ t.is_open by n
  pub first_send : (by : Railway) (n : ℕ) → names.message by n ≡ true → s.first_send by n ≡ t.first_send by n

-- the call is a message of these names on their side alone, or a question for one of them (4.2.11)
abbrev pub Concerns : Names → Call → Type 0
Concerns names (Send m) = IsOnOneSide names m × (is_of names m ≡ true)
Concerns names (Ask by w) = names.wagon w ≡ true
Concerns names (AskUnit by u) = names.unit u ≡ true
Concerns names (Deviation by c) = names.consignment c ≡ true
Concerns names (Fetch by limit) = ⊥
Concerns names (Ack by n) = ⊥

-- such a call gets the same reply
abbrev pub ReplyAlike : Names → HubState → HubState → Type 0
ReplyAlike names s t = (call : Call) → Concerns names call → reply_to s call ≡ reply_to t call

-- the items that the accepted messages of these names make, in order
abbrev pub items_of_names : Names → HubState → List Call → List AddressedItem
items_of_names names s [] = []
items_of_names names s (call ∷ calls) =
    (if stays names call then flat_map (items_of s) (accepted_message s call) else []) ++ items_of_names names (step s call) calls

-- with the messages of these names alone, all that is known of them is as it was
pub record StayTheSame (names : Names) (calls : List Call) : Type 0 where
  pub same : AreSameFor names (state_after calls) (state_after (messages_of names calls))
  pub replies : ReplyAlike names (state_after calls) (state_after (messages_of names calls))
  pub items : (r : Railway) → (state_after (messages_of names calls)).outbox r ≡ items_to r (items_of_names names new_state calls)
  pub fleet : (state_after (messages_of names calls)).fleet ≡ filter names.wagon (state_after calls).fleet
  pub records : view (state_after (messages_of names calls)) ≡ records_of (state_after calls) (filter names.wagon (state_after calls).fleet)

-- the messages of other names can be left behind, and so can questions and acknowledgements
abbrev pub OthersCanBeLeftBehind : Type 0
OthersCanBeLeftBehind = (names : Names) (calls : List Call) → Divide names calls → StayTheSame names calls

-- after any two lists of calls with the same messages of these names, the same is known of them
abbrev pub OthersDoNotMatter : Type 0
OthersDoNotMatter = (names : Names) (before after : List Call) → Divide names before → Divide names after → messages_of names before ≡ messages_of names after →
    AreSameFor names (state_after before) (state_after after) × ReplyAlike names (state_after before) (state_after after)

-- two messages on different sides are apart after calls that the names divide
abbrev pub OthersAreApart : Type 0
OthersAreApart = (names : Names) (calls : List Call) (m n : Message) → Divide names calls → IsOnOneSide names m → IsOnOneSide names n →
    is_of names m ≡ true → is_of names n ≡ false → AreApart (state_after calls) m n
