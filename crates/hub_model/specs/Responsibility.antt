-- Who answers for a wagon, by the messages that were accepted (4.2.7, 4.2.8).
use Rattle.std.specs.Prelude.{◌≡◌, ℕ, ◌==◌, ◌&&◌, if◌then◌else◌, List, Option, Some, None}
use Rattle.hub_model.specs.Common.{Railway, has, Call, Message, Body, Moved, newest, is_departure, is_on_its_way, responsible}
use Rattle.taf_messages.specs.declared.message.Body.TheVariants as body
use Rattle.hub_model.specs.Histories.{state_after}
use Rattle.hub_model.specs.AcceptedMessages.{accepted_in}

-- the railway that a message hands the wagon to: the sender of its departure notice, or of an answer that received it
abbrev pub receiver_in : Railway → Body → ℕ → Option Railway
receiver_in by (body.Movement m) w = if m.wagon == w && is_departure (Moved m.what) then Some by else None
receiver_in by (body.Answer a) w = if has a.received w then Some by else None
receiver_in by _ w = None

-- the last railway that received the wagon, the departing one from the customer
abbrev pub last_receiver : List Message → ℕ → Option Railway
last_receiver messages w = newest (λ m. receiver_in m.by m.body w) messages

-- the railway that answers for a wagon is the last that received it while the wagon is on its way, and there is none before and after
abbrev pub LastReceiverAnswers : Type 0
LastReceiverAnswers = (calls : List Call) (w : ℕ) →
    responsible ((state_after calls).journey w) ≡
    (if is_on_its_way ((state_after calls).journey w) then last_receiver (accepted_in calls) w else None)
