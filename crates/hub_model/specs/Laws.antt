-- What holds of wagons, offers and estimates at every moment.
use Rattle.std.specs.Prelude.{◌≡◌, ◌↔◌, ◌≤◌, ℕ, true, List, [], ◌∷◌, ◌++◌, map, Option, Some, None, IsSome}
use Rattle.hub_model.specs.Common.{Railway, last_minute, has, Call, Send, Message, stage, responsible, is_on_its_way, wagons_of, fits, moment_in}
use Rattle.taf_messages.specs.declared.record.Stage.TheVariants as stage_is
use Rattle.hub_model.specs.declared.entry.Entry.{Entry}
use Rattle.hub_model.specs.HubState.{HubState, journey_after}
use Rattle.hub_model.specs.Faults.{known_fault, calendar_fault}
use Rattle.hub_model.specs.Histories.{IsLegal, answer, run, state_of, state_after}

-- the offer of this name is open, and has the wagon
abbrev pub IsInOpenOffer : HubState → Railway → ℕ → ℕ → Type 0
IsInOpenOffer s by n w = (s.is_open by n ≡ true) × (has (wagons_of (s.offer by n)) w ≡ true)

-- a wagon is in at most one open offer (4.2.8)
abbrev pub OneOpenOffer : HubState → Type 0
OneOpenOffer s = (w n k : ℕ) (by also : Railway) → IsInOpenOffer s by n w → IsInOpenOffer s also k w → (by ≡ also) × (n ≡ k)

-- every wagon of an open offer is offered
abbrev pub OpenIsOffered : HubState → Type 0
OpenIsOffered s = (w n : ℕ) (by : Railway) → IsInOpenOffer s by n w → stage (s.journey w) ≡ Some stage_is.Offered

-- a wagon has a responsible railway exactly when it is on its way (4.2.7)
abbrev pub OneResponsible : HubState → Type 0
OneResponsible s = (w : ℕ) → IsSome (responsible (s.journey w)) ↔ (is_on_its_way (s.journey w) ≡ true)

-- what holds of offers and responsible railways
pub record IsInOrder (s : HubState) : Type 0 where
  pub one_offer : OneOpenOffer s
  pub offered : OpenIsOffered s
  pub responsible : OneResponsible s

-- it holds after every legal history
abbrev pub AlwaysInOrder : Type 0
AlwaysInOrder = (history : List Entry) → IsLegal history → IsInOrder (state_of history)

-- a moment, if there is one, is of the calendar
abbrev pub IsMoment : Option ℕ → Type 0
IsMoment None = Unit {0}
IsMoment (Some at) = at ≤ last_minute

-- the call is such a message, or no send
abbrev pub IsSend : (Message → Type 0) → Call → Type 0
IsSend P (Send m) = P m
IsSend P _ = Unit {0}

-- each send of the history has such a message
abbrev pub EachSend : (Message → Type 0) → List Entry → Type 0
EachSend P [] = Unit {0}
EachSend P (e ∷ history) = IsSend P e.call × EachSend P history

-- the moments of the messages are of the calendar
abbrev pub AreDated : List Entry → Type 0
AreDated history = EachSend (λ m. IsMoment (moment_in m.body)) history

-- no estimate of a wagon passes the calendar (4.2.6)
abbrev pub EstimatesFit : Type 0
EstimatesFit = (history : List Entry) → IsLegal history → AreDated history → (w : ℕ) → fits ((state_of history).journey w) ≡ true

-- nor does one once the journey of a wagon has gone on by a message, at which the wagon passed the checks
abbrev pub ChecksKeepTheCalendar : Type 0
ChecksKeepTheCalendar = (history : List Entry) → IsLegal history → AreDated history → (m : Message) → IsMoment (moment_in m.body) → (w : ℕ) → known_fault (state_of history) m w ≡ None → calendar_fault (state_of history) m w ≡ None →
    fits (journey_after (state_of history) m w) ≡ true

-- the replies of a history are those that its calls get, one after another
abbrev pub RepliesAreTheRun : Type 0
RepliesAreTheRun = (history : List Entry) → IsLegal history → map (λ e. e.reply) history ≡ run (map (λ e. e.call) history)

-- what is known after a history is what is known after its calls
abbrev pub KnownByTheCalls : Type 0
KnownByTheCalls = (history : List Entry) → IsLegal history → state_of history ≡ state_after (map (λ e. e.call) history)

-- a history with one more entry is legal if it was, and the reply is the answer
abbrev pub OneMoreEntry : Type 0
OneMoreEntry = (history : List Entry) (call : Call) → IsLegal history → IsLegal (history ++ record { call = call; reply = answer history call } ∷ [])
