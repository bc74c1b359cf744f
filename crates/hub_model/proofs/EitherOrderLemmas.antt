-- Messages that are apart may come in either order.
use Rattle.hub_model.proofs.Common.{◌≡◌, ℕ, true, List, [], ◌∷◌, ◌++◌, Option, Some, None, ap, ◌∙◌, sym, subst, inl, inr, append_assoc, ◌⊎◌, bytes_eq, IsPermutation, cases_Bool, or_left, true≢false, bytes_eq-Decides, fold-append, IsPermutation-append_comm, IsPermutation-append_right, Railway, UnitCode, ConsignmentId, has, loads, Message, Call, Send, HubState, new_state, named_wagons, units_in, reply_to, step, state_after, AreApart, consignment_in, offer_named, AreAlike, MayOvertake, same_name}
use Rattle.hub_model.proofs.DependencyLemmas.{AreSameAt, reads_alike}
use Rattle.hub_model.proofs.StepLemmas.{added, step-outbox, step-acknowledged, state_after-push}
use Rattle.hub_model.proofs.NamedWagonLemmas.{from_same_name, same_name_true}
use Rattle.hub_model.proofs.FrameLemmas.{journey-other, plan_of-other, unit_plan-other, offer-other, is_open-other, first_send-other, reply-same, journey-same, plan_of-same, unit_plan-same, offer-same, is_open-same, first_send-same, added-same}
use Rattle.hub_model.proofs.ApartLemmas.{AreApart-sym, from_apart, counts_named}
use Rattle.hub_model.proofs.UnitFrameLemmas.{KnowsPlans, knows_plans, busy-other, some_was, none_is_some}

-- after a message that is apart, the other finds the same
same_after : (s : HubState) → KnowsPlans s → (m n : Message) → AreApart s m n → AreSameAt s (step s (Send n)) m
same_after s kn m n p = record {
  wagons = λ w h. sym (journey-other s n w (λ k. p.wagons w h (counts_named s n n.body w k)));
  units = λ u h. busy-other s n u kn (p.units u (or_left _ _ h));
  consignment = λ c e. sym (plan_of-other s n c (p.consignments c e));
  offers = λ by k e. sym (offer-other s n by k (p.offers by k e));
  opens = λ by k e. sym (is_open-other s n by k (p.offers by k e));
  first_sends = sym (first_send-other s n m.by m.no (λ e f. p.names (sym e) (sym f)));
}

some_is : {A : Type 0} (x y : A) → x ≡ y → Path (Option A) (Some x) (Some y)
some_is x y e = cc

pair_is : (by also : Railway) (n k : ℕ) → by ≡ also → n ≡ k → Path (Railway × ℕ) (by, n) (also, k)
pair_is by also n k e f = cc

-- what decides whether a message gives a name
gives_text : (o : Option ConsignmentId) (c : ConsignmentId) → Path (Option ConsignmentId) o (Some c) ⊎ (Path (Option ConsignmentId) o (Some c) → ⊥)
gives_text None c = inr (λ e. none_is_some c e)
gives_text (Some a) c =
    elim (cases_Bool (bytes_eq a c)) [
      | inl e ↦ inl (some_is a c ((bytes_eq-Decides a c).0 e))
      | inr e ↦ inr (λ f. true≢false (sym ((bytes_eq-Decides a c).1 (some_was a c f)) ∙ e))
    ]

gives_name : (o : Option (Railway × ℕ)) (by : Railway) (k : ℕ) → Path (Option (Railway × ℕ)) o (Some (by, k)) ⊎ (Path (Option (Railway × ℕ)) o (Some (by, k)) → ⊥)
gives_name None by k = inr (λ e. none_is_some (by, k) e)
gives_name (Some a) by k =
    elim (cases_Bool (same_name a.0 a.1 by k)) [
      | inl e ↦ (let parts = from_same_name a.0 by a.1 k e in inl (some_is a (by, k) (pair_is a.0 by a.1 k parts.0 parts.1)))
      | inr e ↦ inr (λ f. let g = some_was a (by, k) f in true≢false (sym (same_name_true a.0 by a.1 k (ap (λ p. p.0) g) (ap (λ p. p.1) g)) ∙ e))
    ]

is_name : (by also : Railway) (n k : ℕ) → ((by ≡ also) × (n ≡ k)) ⊎ (by ≡ also → n ≡ k → ⊥)
is_name by also n k =
    elim (cases_Bool (same_name by n also k)) [
      | inl e ↦ inl (from_same_name by also n k e)
      | inr e ↦ inr (λ f g. true≢false (sym (same_name_true by also n k f g) ∙ e))
    ]

-- the wagons that the second message names are the same after the first
names_after : (s : HubState) → KnowsPlans s → (m n : Message) → AreApart s m n → named_wagons (step s (Send m)).offer n ≡ named_wagons s.offer n
names_after s kn m n p = sym ((reads_alike s (step s (Send m)) n (same_after s kn n m (AreApart-sym s m n p))).names)

-- each look-up after both messages, where the first gives its name
journey_first : (s : HubState) → KnowsPlans s → (m n : Message) → AreApart s m n → (w : ℕ) → (has (named_wagons s.offer n) w ≡ true → ⊥) →
    (step (step s (Send m)) (Send n)).journey w ≡ (step (step s (Send n)) (Send m)).journey w
journey_first s kn m n p w other =
    journey-other (step s (Send m)) n w (λ h. other (subst (λ ws. has ws w ≡ true) (names_after s kn m n p) h)) ∙
    journey-same s (step s (Send n)) m (same_after s kn m n p) w (sym (journey-other s n w other))

journey_either : (s : HubState) → KnowsPlans s → (m n : Message) → AreApart s m n → (w : ℕ) → (step (step s (Send m)) (Send n)).journey w ≡ (step (step s (Send n)) (Send m)).journey w
journey_either s kn m n p w =
    elim (cases_Bool (has (named_wagons s.offer m) w)) [
      | inl e ↦ journey_first s kn m n p w (λ h. p.wagons w (counts_named s m m.body w e) (counts_named s n n.body w h))
      | inr e ↦ sym (journey_first s kn n m (AreApart-sym s m n p) w (λ h. true≢false (sym h ∙ e)))
    ]

plan_of_first : (s : HubState) → KnowsPlans s → (m n : Message) → AreApart s m n → (c : ConsignmentId) → (Path (Option ConsignmentId) (consignment_in n.body) (Some c) → ⊥) →
    (step (step s (Send m)) (Send n)).plan_of c ≡ (step (step s (Send n)) (Send m)).plan_of c
plan_of_first s kn m n p c other =
    plan_of-other (step s (Send m)) n c other ∙ plan_of-same s (step s (Send n)) m (same_after s kn m n p) c (sym (plan_of-other s n c other))

plan_of_either : (s : HubState) → KnowsPlans s → (m n : Message) → AreApart s m n → (c : ConsignmentId) → (step (step s (Send m)) (Send n)).plan_of c ≡ (step (step s (Send n)) (Send m)).plan_of c
plan_of_either s kn m n p c =
    elim (gives_text (consignment_in m.body) c) [
      | inl e ↦ plan_of_first s kn m n p c (p.consignments c e)
      | inr e ↦ sym (plan_of_first s kn n m (AreApart-sym s m n p) c e)
    ]

gives_unit : (s : HubState) (m : Message) (u : UnitCode) → (loads (units_in m.body) u ≡ true) ⊎ (loads (units_in m.body) u ≡ true → ⊥)
gives_unit s m u =
    elim (cases_Bool (loads (units_in m.body) u)) [
      | inl e ↦ inl e
      | inr e ↦ inr (λ h. true≢false (sym h ∙ e))
    ]

unit_plan_first : (s : HubState) → KnowsPlans s → (m n : Message) → AreApart s m n → (u : UnitCode) → (loads (units_in n.body) u ≡ true → ⊥) →
    (step (step s (Send m)) (Send n)).unit_plan u ≡ (step (step s (Send n)) (Send m)).unit_plan u
unit_plan_first s kn m n p u other =
    unit_plan-other (step s (Send m)) n u other ∙ unit_plan-same s (step s (Send n)) m (same_after s kn m n p) u (sym (unit_plan-other s n u other))

unit_plan_either : (s : HubState) → KnowsPlans s → (m n : Message) → AreApart s m n → (u : UnitCode) → (step (step s (Send m)) (Send n)).unit_plan u ≡ (step (step s (Send n)) (Send m)).unit_plan u
unit_plan_either s kn m n p u =
    elim (gives_unit s m u) [
      | inl e ↦ unit_plan_first s kn m n p u (λ h. p.units u (or_left _ _ e) (or_left _ _ h))
      | inr e ↦ sym (unit_plan_first s kn n m (AreApart-sym s m n p) u e)
    ]

offer_first : (s : HubState) → KnowsPlans s → (m n : Message) → AreApart s m n → (by : Railway) (k : ℕ) → (Path (Option (Railway × ℕ)) (offer_named n n.body) (Some (by, k)) → ⊥) →
    (step (step s (Send m)) (Send n)).offer by k ≡ (step (step s (Send n)) (Send m)).offer by k
offer_first s kn m n p by k other =
    offer-other (step s (Send m)) n by k other ∙ offer-same s (step s (Send n)) m (same_after s kn m n p) by k (sym (offer-other s n by k other))

offer_either : (s : HubState) → KnowsPlans s → (m n : Message) → AreApart s m n → (by : Railway) (k : ℕ) → (step (step s (Send m)) (Send n)).offer by k ≡ (step (step s (Send n)) (Send m)).offer by k
offer_either s kn m n p by k =
    elim (gives_name (offer_named m m.body) by k) [
      | inl e ↦ offer_first s kn m n p by k (p.offers by k e)
      | inr e ↦ sym (offer_first s kn n m (AreApart-sym s m n p) by k e)
    ]

is_open_first : (s : HubState) → KnowsPlans s → (m n : Message) → AreApart s m n → (by : Railway) (k : ℕ) → (Path (Option (Railway × ℕ)) (offer_named n n.body) (Some (by, k)) → ⊥) →
    (step (step s (Send m)) (Send n)).is_open by k ≡ (step (step s (Send n)) (Send m)).is_open by k
is_open_first s kn m n p by k other =
    is_open-other (step s (Send m)) n by k other ∙ is_open-same s (step s (Send n)) m (same_after s kn m n p) by k (sym (is_open-other s n by k other))

is_open_either : (s : HubState) → KnowsPlans s → (m n : Message) → AreApart s m n → (by : Railway) (k : ℕ) → (step (step s (Send m)) (Send n)).is_open by k ≡ (step (step s (Send n)) (Send m)).is_open by k
is_open_either s kn m n p by k =
    elim (gives_name (offer_named m m.body) by k) [
      | inl e ↦ is_open_first s kn m n p by k (p.offers by k e)
      | inr e ↦ sym (is_open_first s kn n m (AreApart-sym s m n p) by k e)
    ]

first_send_first : (s : HubState) → KnowsPlans s → (m n : Message) → AreApart s m n → (by : Railway) (k : ℕ) → (n.by ≡ by → n.no ≡ k → ⊥) →
    (step (step s (Send m)) (Send n)).first_send by k ≡ (step (step s (Send n)) (Send m)).first_send by k
first_send_first s kn m n p by k other =
    first_send-other (step s (Send m)) n by k other ∙ first_send-same s (step s (Send n)) m (same_after s kn m n p) by k (sym (first_send-other s n by k other))

first_send_either : (s : HubState) → KnowsPlans s → (m n : Message) → AreApart s m n → (by : Railway) (k : ℕ) → (step (step s (Send m)) (Send n)).first_send by k ≡ (step (step s (Send n)) (Send m)).first_send by k
first_send_either s kn m n p by k =
    elim (is_name m.by by m.no k) [
      | inl e ↦ first_send_first s kn m n p by k (λ f g. p.names (e.0 ∙ sym f) (e.1 ∙ sym g))
      | inr e ↦ sym (first_send_first s kn n m (AreApart-sym s m n p) by k e)
    ]

acknowledged_either : (s : HubState) (m n : Message) (r : Railway) → (step (step s (Send m)) (Send n)).acknowledged r ≡ (step (step s (Send n)) (Send m)).acknowledged r
acknowledged_either s m n r =
    step-acknowledged (step s (Send m)) n r ∙ step-acknowledged s m r ∙ sym (step-acknowledged (step s (Send n)) m r ∙ step-acknowledged s n r)

outbox_both : (s : HubState) → KnowsPlans s → (m n : Message) → AreApart s m n → (r : Railway) → (step (step s (Send m)) (Send n)).outbox r ≡ s.outbox r ++ (added s m r ++ added s n r)
outbox_both s kn m n p r =
    step-outbox (step s (Send m)) n r ∙
    ap (λ xs. xs ++ added (step s (Send m)) n r) (step-outbox s m r) ∙
    ap (λ xs. (s.outbox r ++ added s m r) ++ xs) (sym (added-same s (step s (Send m)) n (same_after s kn n m (AreApart-sym s m n p)) r)) ∙
    append_assoc (s.outbox r) (added s m r) (added s n r)

permuted : {A : Type 0} (xs ys zs us : List A) → us ≡ zs ++ (ys ++ xs) → {vs : List A} → vs ≡ zs ++ (xs ++ ys) → IsPermutation vs us
permuted xs ys zs us e f = rw (e, f) (IsPermutation-append_right zs (xs ++ ys) (ys ++ xs) (IsPermutation-append_comm xs ys))

outbox_either : (s : HubState) → KnowsPlans s → (m n : Message) → AreApart s m n → (r : Railway) → IsPermutation ((step (step s (Send m)) (Send n)).outbox r) ((step (step s (Send n)) (Send m)).outbox r)
outbox_either s kn m n p r =
    permuted (added s m r) (added s n r) (s.outbox r) _ (outbox_both s kn n m (AreApart-sym s m n p) r) (outbox_both s kn m n p r)

-- in either order the same is known
alike_either : (s : HubState) → KnowsPlans s → (m n : Message) → AreApart s m n → AreAlike (step (step s (Send m)) (Send n)) (step (step s (Send n)) (Send m))
alike_either s kn m n p = record {
  journey = journey_either s kn m n p;
  plan_of = plan_of_either s kn m n p;
  unit_plan = unit_plan_either s kn m n p;
  offer = offer_either s kn m n p;
  is_open = is_open_either s kn m n p;
  first_send = first_send_either s kn m n p;
  acknowledged = acknowledged_either s m n;
  outbox = outbox_either s kn m n p;
}

-- and each gets the reply that it gets alone
reply_either : (s : HubState) → KnowsPlans s → (m n : Message) → AreApart s m n → reply_to (step s (Send m)) (Send n) ≡ reply_to s (Send n)
reply_either s kn m n p = sym (reply-same s (step s (Send m)) n (same_after s kn n m (AreApart-sym s m n p)))

-- two more calls
after_two : (calls : List Call) (a b : Call) → state_after (calls ++ a ∷ b ∷ []) ≡ step (step (state_after calls) a) b
after_two calls a b = fold-append step new_state calls (a ∷ b ∷ [])

pub may_overtake : MayOvertake
may_overtake calls m n h =
    let s = state_after calls in
    let kn = knows_plans calls in
    let p = from_apart s m n h in (
      ap (λ t. reply_to t (Send n)) (state_after-push calls (Send m)) ∙ reply_either s kn m n p,
      ap (λ t. reply_to t (Send m)) (state_after-push calls (Send n)) ∙ reply_either s kn n m (AreApart-sym s m n p),
      rw (after_two calls (Send m) (Send n), after_two calls (Send n) (Send m)) (alike_either s kn m n p),
    )
