-- What a call changes, and what it doesn't.
use Rattle.std.specs.Prelude.{◌≡◌, ℕ, Bool, true, false, List, Some}
use Rattle.hub_model.specs.Common.{Railway, UnitCode, ConsignmentId, Call, Send, Reply, Accepted, Acknowledged, Message, same_message}
use Rattle.hub_model.specs.HubState.{HubState, FirstSend}
use Rattle.hub_model.specs.Faults.{fault}
use Rattle.hub_model.specs.Items.{items_of}
use Rattle.hub_model.specs.Replies.{reply_to}
use Rattle.hub_model.specs.Histories.{step, state_after}
use Rattle.hub_model.specs.AcceptedMessages.{accepted_in}

-- the reply accepts a message or an acknowledgement
abbrev pub is_change : Reply → Bool
is_change (Accepted n) = true
is_change (Acknowledged n) = true
is_change _ = false

-- the same is looked up, but for the first sends
pub record AreUnchanged (s t : HubState) : Type 0 where
  pub journey : (w : ℕ) → t.journey w ≡ s.journey w
  pub plan_of : (c : ConsignmentId) → t.plan_of c ≡ s.plan_of c
  pub unit_plan : (u : UnitCode) → t.unit_plan u ≡ s.unit_plan u
  pub offer : (by : Railway) (n : ℕ) → t.offer by n ≡ s.offer by n
  pub is_open : (by : Railway) (n : ℕ) → t.is_open by n ≡ s.is_open by n
  pub acknowledged : (r : Railway) → t.acknowledged r ≡ s.acknowledged r
  pub outbox : (r : Railway) → t.outbox r ≡ s.outbox r
  pub fleet : t.fleet ≡ s.fleet

-- a call that is refused, and one that only asks, changes no journey, offer, outbox or acknowledged number
abbrev pub OthersChangeNothing : Type 0
OthersChangeNothing = (s : HubState) (call : Call) → is_change (reply_to s call) ≡ false → AreUnchanged s (step s call)

-- a message is taken once: sent again, it changes nothing at all
abbrev pub TakenOnce : Type 0
TakenOnce = (s : HubState) (m : Message) (first : FirstSend) → s.first_send m.by m.no ≡ Some first → step s (Send m) ≡ s

-- and it gets the reply that it got at first, whatever has come since
abbrev pub AnsweredAsAtFirst : Type 0
AnsweredAsAtFirst = (s : HubState) (m : Message) (first : FirstSend) → s.first_send m.by m.no ≡ Some first → same_message first.message m ≡ true →
    reply_to s (Send m) ≡ first.reply

-- the fault of a message, and its items, go by the accepted messages alone
abbrev pub JudgedByTheAccepted : Type 0
JudgedByTheAccepted = (before after : List Call) (m : Message) → accepted_in before ≡ accepted_in after →
    (fault (state_after before) m ≡ fault (state_after after) m) × (items_of (state_after before) m ≡ items_of (state_after after) m)
