-- How responsibility for a wagon passes from one railway to the next (4.2.7, 4.2.8).
use Rattle.std.specs.Prelude.{◌≡◌, ◌⊎◌, ℕ, ◌==◌, Bool, true, false, ◌&&◌, List, [], ◌∷◌, ◌++◌, Some}
use Rattle.hub_model.specs.Common.{Railway, has, Call, Send, Message, Body, Departure, Moved, leg_index, stage, is_delivery, responsible, runner_of, asked_by}
use Rattle.taf_messages.specs.declared.message.Body.TheVariants as body
use Rattle.taf_messages.specs.declared.record.Stage.TheVariants as stage_is
use Rattle.hub_model.specs.declared.entry.Entry.{Entry}
use Rattle.hub_model.specs.HubState.{HubState}
use Rattle.hub_model.specs.Histories.{IsLegal, answer, state_of, state_after}
use Rattle.hub_model.specs.AcceptedMessages.{accepts}
use Rattle.hub_model.specs.Responsibility.{receiver_in}
use Rattle.hub_model.specs.Laws.{IsInOpenOffer}

-- the railway answers for the wagon (4.2.7)
abbrev pub IsResponsible : HubState → ℕ → Railway → Type 0
IsResponsible s w r = responsible (s.journey w) ≡ Some r

-- the call sends this message, which is new and accepted
pub record IsAcceptedSend (s : HubState) (call : Call) (m : Message) : Type 0 where
  pub sent : call ≡ Send m
  pub accepted : accepts s m ≡ true

-- the message is the wagon's delivery notice (4.2.7)
abbrev pub delivers : Body → ℕ → Bool
delivers (body.Movement m) w = m.wagon == w && is_delivery (Moved m.what)
delivers _ w = false

-- the answer of this sender received the wagon from railway r, whose open offer has the wagon and asked the sender (4.2.8)
abbrev pub ReceivesFrom : HubState → Railway → Railway → Body → ℕ → Type 0
ReceivesFrom s r by (body.Answer a) w =
    (a.offerer ≡ r) × (has a.received w ≡ true) × (asked_by (s.offer r a.offer) ≡ Some by) × IsInOpenOffer s r a.offer w
ReceivesFrom s r by _ w = ⊥

-- the message hands the wagon to its sender: it departs with the wagon, which was released and whose first leg it runs (4.2.7), or it received the wagon from the responsible railway (4.2.8)
abbrev pub IsHandedOver : HubState → Railway → Body → ℕ → Type 0
IsHandedOver s by (body.Movement m) w =
    (m.wagon ≡ w) × (m.what ≡ Departure) × (stage (s.journey w) ≡ Some stage_is.Released) × (runner_of (s.journey w) 0 ≡ Some by)
IsHandedOver s by (body.Answer a) w = IsResponsible s w a.offerer × ReceivesFrom s a.offerer by (body.Answer a) w
IsHandedOver s by _ w = ⊥

-- the railway takes the wagon over by the call: by a message of its own that hands it the wagon
abbrev pub TakesOver : HubState → Call → ℕ → Railway → Type 0
TakesOver s call w r = (m : Message) × IsAcceptedSend s call m × (m.by ≡ r) × IsHandedOver s r m.body w

-- the railway gives the wagon up by the call: its own delivery notice, or an answer that received the wagon from it
abbrev pub GivesUp : HubState → Call → ℕ → Railway → Type 0
GivesUp s call w r =
    (m : Message) × IsAcceptedSend s call m × (((m.by ≡ r) × (delivers m.body w ≡ true)) ⊎ ReceivesFrom s r m.by m.body w)

-- the railway becomes responsible only by taking the wagon over, and stops being so only by giving it up; and whose departure notice or answer is accepted has the wagon at once
pub record IsByConsent (before after : HubState) (call : Call) (w : ℕ) (r : Railway) : Type 0 where
  pub becomes : IsResponsible after w r → (IsResponsible before w r → ⊥) → TakesOver before call w r
  pub stops : IsResponsible before w r → (IsResponsible after w r → ⊥) → GivesUp before call w r
  pub passes : (m : Message) → IsAcceptedSend before call m → receiver_in m.by m.body w ≡ Some r → IsResponsible after w r

-- so it is for one call more, whatever calls came
abbrev pub CallsByConsent : Type 0
CallsByConsent = (calls : List Call) (call : Call) (w : ℕ) (r : Railway) →
    IsByConsent (state_after calls) (state_after (calls ++ call ∷ [])) call w r

-- and for one entry more of a legal history
abbrev pub EntriesByConsent : Type 0
EntriesByConsent = (history : List Entry) (call : Call) (w : ℕ) (r : Railway) → IsLegal history →
    IsByConsent (state_of history) (state_of (history ++ record { call = call; reply = answer history call } ∷ [])) call w r

-- the responsible railway runs the leg that the wagon is on, after every legal history
abbrev pub ResponsibleRunsTheLeg : Type 0
ResponsibleRunsTheLeg = (history : List Entry) → IsLegal history → (w : ℕ) (r : Railway) →
    IsResponsible (state_of history) w r → runner_of ((state_of history).journey w) (leg_index ((state_of history).journey w)) ≡ Some r
