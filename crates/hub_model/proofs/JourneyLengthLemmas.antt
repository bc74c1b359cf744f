-- What every accepted message keeps holds after every legal history.
use Rattle.hub_model.proofs.Common.{◌≡◌, ℕ, cond, List, [], ◌∷◌, Option, Some, None, refl, is_some, fold, Railway, Call, Send, Ask, AskUnit, Deviation, Fetch, Ack, Reply, Accepted, Refused, refused, One, Many, Items, Acknowledged, Message, Entry, HubState, FirstSend, Fault, fault, reply_to, send_reply, verdict, after_acceptance, with_first_send, with_acknowledgement, after_new, after_call, after, step, IsLegalFrom, IsSend, EachSend}

-- a property that each accepted message of this sort keeps, and that speaks of neither sends nor acknowledgements
pub record IsTrackState (D : Message → Type 0) (P : HubState → Type 0) : Type 0 where
  pub accepts : (s : HubState) (m : Message) → D m → fault s m ≡ None → P s → P (after_acceptance s m)
  pub notes : (s : HubState) (m : Message) (reply : Reply) → P s → P (with_first_send s m reply)
  pub acks : (s : HubState) (by : Railway) (n : ℕ) → P s → P (with_acknowledgement s by n)

module _ (D : Message → Type 0) (P : HubState → Type 0) (kept : IsTrackState D P) where
  kept_new : (s : HubState) (m : Message) (f : Option Fault) → D m → fault s m ≡ f → P s → P (after_new s m (verdict m.no f))
  kept_new s m None d e p = kept.notes (after_acceptance s m) m (Accepted m.no) (kept.accepts s m d e p)
  kept_new s m (Some f) d e p = kept.notes s m (refused (Some m.no) f.why f.wagon None) p

  kept_send : (s : HubState) (m : Message) (reply : Reply) (first : Option FirstSend) → D m → reply ≡ send_reply s m first → P s → P (cond (is_some first) s (after_new s m reply))
  kept_send s m reply (Some first) d e p = p
  kept_send s m reply None d e p = rw e (kept_new s m (fault s m) d refl p)

  pub kept_after : (s : HubState) (call : Call) (reply : Reply) → IsSend D call → reply ≡ reply_to s call → P s → P (after_call s call reply)
  kept_after s (Send m) reply d e p = kept_send s m reply (s.first_send m.by m.no) d e p
  kept_after s (Ack by k) (Acknowledged n) d e p = kept.acks s by n p
  kept_after s (Ack by k) (Accepted n) d e p = p
  kept_after s (Ack by k) (Refused r) d e p = p
  kept_after s (Ack by k) (One r) d e p = p
  kept_after s (Ack by k) (Many rs) d e p = p
  kept_after s (Ack by k) (Items is) d e p = p
  kept_after s (Ask by w) reply d e p = p
  kept_after s (AskUnit by u) reply d e p = p
  kept_after s (Deviation by c) reply d e p = p
  kept_after s (Fetch by limit) reply d e p = p

  pub kept_from : (s : HubState) (history : List Entry) → IsLegalFrom s history → EachSend D history → P s → P (fold after s history)
  kept_from s [] legal d p = p
  kept_from s (e ∷ history) legal d p = kept_from (after s e) history legal.1 d.1 (kept_after s e.call e.reply d.0 legal.0 p)

-- every message is a message
pub is_any : (call : Call) → IsSend (λ m. Unit {0}) call
is_any (Send m) = tt
is_any (Ask by w) = tt
is_any (AskUnit by u) = tt
is_any (Deviation by c) = tt
is_any (Fetch by limit) = tt
is_any (Ack by n) = tt

pub each_any : (history : List Entry) → EachSend (λ m. Unit {0}) history
each_any [] = tt
each_any (e ∷ history) = (is_any e.call, each_any history)

-- so it holds after any calls
pub kept_calls : (P : HubState → Type 0) (kept : IsTrackState (λ m. Unit {0}) P) (s : HubState) (calls : List Call) → P s → P (fold step s calls)
kept_calls P kept s [] p = p
kept_calls P kept s (call ∷ calls) p = kept_calls P kept (step s call) calls (kept_after (λ m. Unit {0}) P kept s call (reply_to s call) (is_any call) refl p)
