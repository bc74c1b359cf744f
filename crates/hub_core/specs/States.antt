-- When the hub's state is consistent with its history.
use Rattle.std.specs.Prelude.{◌≡◌, ℕ, ◌<◌, ◌≤◌, true, List, [], ◌∷◌, ◌++◌, length, slice_get, Option, Some, None, Result, IfOk, OnErr}
use Rattle.taf_codes.specs.declared.memory.Memory.{Memory}
use Rattle.taf_codes.specs.declared.code.Railway.{Railway}
use Rattle.taf_messages.specs.declared.call.Call.{Call}
use Rattle.taf_messages.specs.declared.call.Call.TheVariants.{Send}
use Rattle.taf_messages.specs.declared.message.Message.{Message}
use Rattle.taf_messages.specs.declared.reply.Reply.{Reply}
use Rattle.outbox.specs.OutboxStates.{OutboxState, outbox_state_of}
use Rattle.outbox.specs.Keeping.{Keeps}
use Rattle.replay_numbers.specs.SentPositions.{position_of, has_room}
use Rattle.hub_model.specs.declared.entry.Entry.{Entry}
use Rattle.taf_messages.specs.Bodies.{moment_in}
use Rattle.hub_model.specs.HubState.{HubState, FirstSend}
use Rattle.hub_model.specs.Histories.{state_of, IsLegal, answer}
use Rattle.hub_model.specs.Laws.{AreDated, IsMoment, IsSend}
use Rattle.hub_model.specs.Bounds.{AreWithinLimits, IsWithinLimits}
use Rattle.hub_tables.specs.TableStates.{table_state, table_part}
use Rattle.hub_tables.specs.Changes.{known_before}
use Rattle.hub_core.specs.declared.state.State.{State}

-- the entry of a send
abbrev pub entry_of : FirstSend → Entry
entry_of first = record { call = Send first.message; reply = first.reply }

-- the position, if there is one, is that of the first send, if there is one
abbrev pub LeadsTo : List Entry → Option ℕ → Option FirstSend → Type 0
LeadsTo history None None = Unit {0}
LeadsTo history (Some position) (Some first) = slice_get history position ≡ Some (entry_of first)
LeadsTo history _ _ = ⊥

-- no offer has a name that was not sent
abbrev pub OffersWereSent : HubState → Type 0
OffersWereSent s = (by : Railway) (n : ℕ) → s.first_send by n ≡ None → s.offer by n ≡ None

-- the message's moment is of the calendar, and its lists keep their limits
abbrev pub KeepsLimits : Message → Type 0
KeepsLimits m = IsMoment (moment_in m.body) × IsWithinLimits m

-- so do those of the message that a call sends
abbrev pub SendKeepsLimits : Call → Type 0
SendKeepsLimits call = IsSend (λ m. IsMoment (moment_in m.body)) call × IsSend IsWithinLimits call

-- the history is legal, and what is looked up is what the model knows after it
pub record Represents (history : List Entry) (looked_up : HubState) (position : Railway → ℕ → Option ℕ) (box : Railway → OutboxState) : Type 0 where
  pub legal : IsLegal history
  pub dated : AreDated history
  pub within : AreWithinLimits history
  pub few : length history ≤ 1000000
  pub tables : looked_up ≡ table_part (state_of history)
  pub firsts : (by : Railway) (n : ℕ) → LeadsTo history (position by n) ((state_of history).first_send by n)
  pub boxes : (r : Railway) → Keeps (box r) ((state_of history).outbox r) ((state_of history).acknowledged r)
  pub offers : OffersWereSent (state_of history)

-- the state of a hub represents its history
abbrev pub IsConsistent : State → Type 0
IsConsistent b = Represents b.history.entries (table_state b.tables) (position_of b.seen) (outbox_state_of b.outboxes)

-- a call may be taken: the state is consistent, and its history has room for one entry more
abbrev pub MayTake : State → Type 0
MayTake b = IsConsistent b × (length b.history.entries < 1000000)

-- what was looked up before the changes of journeys that the state has in its list
abbrev pub known_before_changes : State → HubState
known_before_changes b = known_before b.tables b.changes.items

-- a message may be accepted: before these changes the state was consistent, and its history has room for one entry more
abbrev pub MayAccept : State → Type 0
MayAccept b = Represents b.history.entries (known_before_changes b) (position_of b.seen) (outbox_state_of b.outboxes) × (length b.history.entries < 1000000)

-- the name of the message was not used before, the message keeps the limits of its parts, and there is room to note the name
abbrev pub IsNew : State → Message → Type 0
IsNew b m = (position_of b.seen m.by m.no ≡ None) × KeepsLimits m × (has_room b.seen m.by m.no ≡ true)

-- the call was applied: the state represents the new history, the reply is the answer, and the history grew by exactly
-- both; where memory is refused the history is as it was
pub record Applies (old new : State) (call : Call) (result : Result Reply Memory) : Type 0 where
  pub kept : IsConsistent new
  pub answered : IfOk result (λ r. r ≡ answer old.history.entries call)
  pub grows : IfOk result (λ r. new.history.entries ≡ old.history.entries ++ record { call = call; reply = r } ∷ [])
  pub err : OnErr result (new.history.entries ≡ old.history.entries)
