-- What each accepted message makes larger by so much at most is bounded by the length of the history.
use native.Mathlib.Omega.{arith}
use Rattle.hub_model.proofs.Common.{◌≡◌, ℕ, ◌+◌, ◌*◌, ◌≤◌, cond, suc, List, [], ◌∷◌, ◌++◌, length, mul-suc, Option, Some, None, refl, true, false, Bool, is_some, fold, length-append, cond_both, has, Event, is_plan, Railway, Call, Send, Ask, AskUnit, Deviation, Fetch, Ack, Reply, Accepted, Refused, refused, One, Many, Items, Acknowledged, Message, Entry, Fault, HubState, FirstSend, new_state, named_wagons, event_for, with_event, journey_after, fault, reply_to, send_reply, verdict, after_acceptance, with_first_send, with_acknowledgement, after_new, after_call, after, is_accepted, IsLegalFrom, IsSend, EachSend, JourneysAreBounded}
use Rattle.hub_model.proofs.JourneyLengthLemmas.{IsTrackState, kept_after}

one_more : (a b c k n : ℕ) → a ≤ b + k → c ≤ a + k * n → c ≤ b + k * suc n
one_more a b c k n h g = let e = mul-suc k n in omega arith

-- a size that accepted messages raise by k at most, and nothing else does
module _ (D : Message → Type 0) (P : HubState → Type 0) (kept : IsTrackState D P) (size : HubState → ℕ) (k : ℕ)
    (accepts : (s : HubState) (m : Message) → D m → fault s m ≡ None → P s → size (after_acceptance s m) ≤ size s + k)
    (notes : (s : HubState) (m : Message) (reply : Reply) → size (with_first_send s m reply) ≡ size s)
    (acks : (s : HubState) (by : Railway) (n : ℕ) → size (with_acknowledgement s by n) ≡ size s) where
  grown_new : (s : HubState) (m : Message) (f : Option Fault) → D m → fault s m ≡ f → P s → size (after_new s m (verdict m.no f)) ≤ size s + k
  grown_new s m None d e p = rw (notes (after_acceptance s m) m (Accepted m.no)) (accepts s m d e p)
  grown_new s m (Some f) d e p = rw (notes s m (refused (Some m.no) f.why f.wagon None)) (omega arith)

  grown_send : (s : HubState) (m : Message) (reply : Reply) (first : Option FirstSend) → D m → reply ≡ send_reply s m first → P s → size (cond (is_some first) s (after_new s m reply)) ≤ size s + k
  grown_send s m reply (Some first) d e p = omega arith
  grown_send s m reply None d e p = rw e (grown_new s m (fault s m) d refl p)

  grown_after : (s : HubState) (call : Call) (reply : Reply) → IsSend D call → reply ≡ reply_to s call → P s → size (after_call s call reply) ≤ size s + k
  grown_after s (Send m) reply d e p = grown_send s m reply (s.first_send m.by m.no) d e p
  grown_after s (Ack by i) (Acknowledged n) d e p = rw (acks s by n) (omega arith)
  grown_after s (Ack by i) (Accepted n) d e p = omega arith
  grown_after s (Ack by i) (Refused r) d e p = omega arith
  grown_after s (Ack by i) (One r) d e p = omega arith
  grown_after s (Ack by i) (Many rs) d e p = omega arith
  grown_after s (Ack by i) (Items is) d e p = omega arith
  grown_after s (Ask by w) reply d e p = omega arith
  grown_after s (AskUnit by u) reply d e p = omega arith
  grown_after s (Deviation by c) reply d e p = omega arith
  grown_after s (Fetch by limit) reply d e p = omega arith

  pub grown_from : (s : HubState) (history : List Entry) → IsLegalFrom s history → EachSend D history → P s → size (fold after s history) ≤ size s + k * length history
  grown_from s [] legal d p = omega arith
  grown_from s (e ∷ history) legal d p =
      one_more (size (after s e)) (size s) (size (fold after (after s e) history)) k (length history) (grown_after s e.call e.reply d.0 legal.0 p)
      (grown_from (after s e) history legal.1 d.1 (kept_after D P kept s e.call e.reply d.0 legal.0 p))

-- one more event at most
more_event : (events : List Event) (e : Event) → length (with_event events e) ≤ length events + 1
more_event [] e = cond_both (is_plan e.body) (e ∷ []) [] (λ es. length es ≤ 1) (λ h. omega arith) (λ h. omega arith)
more_event (first ∷ events) e =
    cond_both (is_plan e.body) (e ∷ []) (first ∷ events ++ e ∷ []) (λ es. length es ≤ length (first ∷ events) + 1)
    (λ h. omega arith)
    (λ h. let l = length-append events (e ∷ []) in omega arith)

more_share : (s : HubState) (m : Message) (w : ℕ) → length (journey_after s m w) ≤ length (s.journey w) + 1
more_share s m w =
    cond_both (has (named_wagons s.offer m) w) (with_event (s.journey w) (event_for s.offer m w)) (s.journey w) (λ es. length es ≤ length (s.journey w) + 1)
    (λ h. more_event (s.journey w) (event_for s.offer m w))
    (λ h. omega arith)

more_new : (s : HubState) (m : Message) (reply : Reply) (b : Bool) (w : ℕ) → length ((with_first_send (cond b (after_acceptance s m) s) m reply).journey w) ≤ length (s.journey w) + 1
more_new s m reply true w = more_share s m w
more_new s m reply false w = omega arith

more_send : (s : HubState) (m : Message) (reply : Reply) (first : Option FirstSend) (w : ℕ) → length ((cond (is_some first) s (after_new s m reply)).journey w) ≤ length (s.journey w) + 1
more_send s m reply (Some first) w = omega arith
more_send s m reply None w = more_new s m reply (is_accepted reply) w

more_call : (s : HubState) (call : Call) (reply : Reply) (w : ℕ) → length ((after_call s call reply).journey w) ≤ length (s.journey w) + 1
more_call s (Send m) reply w = more_send s m reply (s.first_send m.by m.no) w
more_call s (Ack by i) (Acknowledged n) w = omega arith
more_call s (Ack by i) _ w = omega arith
more_call s (Ask by v) reply w = omega arith
more_call s (AskUnit by u) reply w = omega arith
more_call s (Deviation by c) reply w = omega arith
more_call s (Fetch by limit) reply w = omega arith

journey_from : (s : HubState) (history : List Entry) (w : ℕ) → length ((fold after s history).journey w) ≤ length (s.journey w) + length history
journey_from s [] w = omega arith
journey_from s (e ∷ history) w = let one = more_call s e.call e.reply w in let rest = journey_from (after s e) history w in omega arith

pub journeys_are_bounded : JourneysAreBounded
journeys_are_bounded history w = let h = journey_from new_state history w in omega arith
