-- Alike lists stay alike.
use Rattle.hub_model.proofs.Common.{◌≡◌, ℕ, false, cond, not, List, [], ◌∷◌, ◌++◌, Option, Some, None, refl, ap, ◌∙◌, sym, subst, bytes_eq, IsPermutation, option_map_or, option_and_then, fold, fold-append, IsPermutation-refl, IsPermutation-append, length_permutation, Railway, UnitCode, Message, Call, Send, Ask, AskUnit, Deviation, Fetch, Ack, Reply, Accepted, Refused, One, Many, Items, Acknowledged, is_delivered, HubState, new_state, unit_wagon, is_unit_busy, wagon_by, loaded_on, reply_to, unit_reply, after_call, step, state_after, AreAlike, IsFetch, StayAlike, StayAlikeThrough}
use Rattle.hub_model.proofs.DependencyLemmas.{AreSameAt}
use Rattle.hub_model.proofs.StepLemmas.{added, step-outbox, step-acknowledged, state_after-push}
use Rattle.hub_model.proofs.FrameLemmas.{reply-same, journey-same, plan_of-same, unit_plan-same, offer-same, is_open-same, first_send-same, added-same}

same_function : {A B : Type 0} (f g : A → B) → ((x : A) → f x ≡ g x) → f ≡ g
same_function f g h = λ i x. h x i

-- alike lists find the same wagon of a unit, as busy
wagon_alike : (s t : HubState) → AreAlike s t → (u : UnitCode) → unit_wagon s u ≡ unit_wagon t u
wagon_alike s t a u =
    ap (λ o. option_and_then (λ p. wagon_by s.journey p (loaded_on p u)) o) (a.unit_plan u) ∙
    ap (λ j. option_and_then (λ p. wagon_by j p (loaded_on p u)) (t.unit_plan u)) (same_function s.journey t.journey a.journey)

busy_alike : (s t : HubState) → AreAlike s t → (u : UnitCode) → is_unit_busy s u ≡ is_unit_busy t u
busy_alike s t a u =
    ap (λ j. option_map_or (λ w. not (is_delivered (j w))) (unit_wagon s u) false) (same_function s.journey t.journey a.journey) ∙
    ap (λ o. option_map_or (λ w. not (is_delivered (t.journey w))) o false) (wagon_alike s t a u)

unit_by_wagon : (s t : HubState) → AreAlike s t → (by : Railway) (o : Option ℕ) → unit_reply s by o ≡ unit_reply t by o
unit_by_wagon s t a by None = refl
unit_by_wagon s t a by (Some w) = rw (a.journey w) refl

unit_reply_alike : (s t : HubState) → AreAlike s t → (by : Railway) (u : UnitCode) → unit_reply s by (unit_wagon s u) ≡ unit_reply t by (unit_wagon t u)
unit_reply_alike s t a by u = unit_by_wagon s t a by (unit_wagon s u) ∙ ap (unit_reply t by) (wagon_alike s t a u)

-- alike lists find the same at the names of any message
same_at : (s t : HubState) → AreAlike s t → (m : Message) → AreSameAt s t m
same_at s t a m = record {
  wagons = λ w h. a.journey w;
  units = λ u h. busy_alike s t a u;
  consignment = λ c e. a.plan_of c;
  offers = λ by k e. a.offer by k;
  opens = λ by k e. a.is_open by k;
  first_sends = a.first_send m.by m.no;
}

grown : {A : Type 0} (xs ys us vs : List A) → IsPermutation xs ys → us ≡ vs → {zs ws : List A} → zs ≡ xs ++ us → ws ≡ ys ++ vs → IsPermutation zs ws
grown xs ys us vs p e f g = rw (f, g, e) (IsPermutation-append xs ys vs vs p (IsPermutation-refl vs))

alike_send : (s t : HubState) → AreAlike s t → (m : Message) → AreAlike (step s (Send m)) (step t (Send m))
alike_send s t a m =
    let r = same_at s t a m in
    record {
      journey = λ w. journey-same s t m r w (a.journey w);
      plan_of = λ c. plan_of-same s t m r c (a.plan_of c);
      unit_plan = λ u. unit_plan-same s t m r u (a.unit_plan u);
      offer = λ by k. offer-same s t m r by k (a.offer by k);
      is_open = λ by k. is_open-same s t m r by k (a.is_open by k);
      first_send = λ by k. first_send-same s t m r by k (a.first_send by k);
      acknowledged = λ q. step-acknowledged s m q ∙ a.acknowledged q ∙ sym (step-acknowledged t m q);
      outbox = λ q. grown (s.outbox q) (t.outbox q) (added s m q) (added t m q) (a.outbox q) (added-same s t m r q) (step-outbox s m q) (step-outbox t m q);
    }

alike_acked : (s t : HubState) → AreAlike s t → (by : Railway) (k : ℕ) (reply : Reply) → AreAlike (after_call s (Ack by k) reply) (after_call t (Ack by k) reply)
alike_acked s t a by k (Acknowledged n) = record {
  journey = a.journey;
  plan_of = a.plan_of;
  unit_plan = a.unit_plan;
  offer = a.offer;
  is_open = a.is_open;
  first_send = a.first_send;
  acknowledged = λ r. ap (cond (bytes_eq by r) n) (a.acknowledged r);
  outbox = a.outbox;
}
alike_acked s t a by k (Accepted n) = a
alike_acked s t a by k (Refused r) = a
alike_acked s t a by k (One r) = a
alike_acked s t a by k (Many rs) = a
alike_acked s t a by k (Items is) = a

reply_alike : (s t : HubState) → AreAlike s t → (call : Call) → (IsFetch call → ⊥) → reply_to s call ≡ reply_to t call
reply_alike s t a (Send m) f = reply-same s t m (same_at s t a m)
reply_alike s t a (Ask by w) f = rw (a.journey w) refl
reply_alike s t a (AskUnit by u) f = unit_reply_alike s t a by u
reply_alike s t a (Deviation by c) f = rw (a.plan_of c, same_function s.journey t.journey a.journey) refl
reply_alike s t a (Fetch by limit) f = absurd (f tt)
reply_alike s t a (Ack by k) f = rw (a.acknowledged by, sym (length_permutation (s.outbox by) (t.outbox by) (a.outbox by))) refl

alike_step : (s t : HubState) → AreAlike s t → (call : Call) → AreAlike (step s call) (step t call)
alike_step s t a (Send m) = alike_send s t a m
alike_step s t a (Ask by w) = a
alike_step s t a (AskUnit by u) = a
alike_step s t a (Deviation by c) = a
alike_step s t a (Fetch by limit) = a
alike_step s t a (Ack by k) =
    subst (λ reply. AreAlike (after_call s (Ack by k) (reply_to s (Ack by k))) (after_call t (Ack by k) reply)) (reply_alike s t a (Ack by k) (λ f. f)) (alike_acked s t a by k (reply_to s (Ack by k)))

pub stay_alike : StayAlike
stay_alike before after call a = (
  rw (state_after-push before call, state_after-push after call) (alike_step (state_after before) (state_after after) a call),
  λ f. reply_alike (state_after before) (state_after after) a call f,
)

alike_through : (s t : HubState) (calls : List Call) → AreAlike s t → AreAlike (fold step s calls) (fold step t calls)
alike_through s t [] a = a
alike_through s t (call ∷ calls) a = alike_through (step s call) (step t call) calls (alike_step s t a call)

pub stay_alike_through : StayAlikeThrough
stay_alike_through before after calls a =
    rw (fold-append step new_state before calls, fold-append step new_state after calls) (alike_through (state_after before) (state_after after) calls a)
