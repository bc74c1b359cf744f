-- A call that concerns these names gets the same reply, where the same is looked up of them.
use Rattle.hub_model.proofs.Common.{◌≡◌, ℕ, Bool, true, false, cond, List, [], ◌∷◌, Option, Some, None, refl, ap, ◌∙◌, sym, ◌&&◌, filter, filter_map, or_right, bytes_eq, Railway, ConsignmentId, Trip, has, Send, Ask, AskUnit, Deviation, Fetch, Ack, Many, NotYours, record_of, is_late, HubState, unit_wagon, is_on_plan, refusal_reply, unit_reply, deviation_reply}
use Rattle.hub_model.proofs.DependencyLemmas.{has_first}
use Rattle.hub_model.proofs.FrameLemmas.{reply-same}
use Rattle.carry_over.specs.Names.{Names}
use Rattle.carry_over.specs.Carried.{AreSameFor, ReplyAlike}
use Rattle.carry_over.proofs.SideLemmas.{KeepsSides}
use Rattle.carry_over.proofs.SameLemmas.{same_at, unit_wagon-same, unit_wagon-side}

one_more : {A B : Type 0} (f : A → Option B) (x : A) (xs : List A) (b : Bool) → filter_map f (cond b (x ∷ xs) xs) ≡ cond b (filter_map f (x ∷ xs)) (filter_map f xs)
one_more f x xs true = refl
one_more f x xs false = refl

module _ (s t : HubState) (p : Trip) where
  -- the late wagons of the plan that are on it, where the journeys are the same
  late_records : (wagons : List ℕ) → ((w : ℕ) → has wagons w ≡ true → s.journey w ≡ t.journey w) →
      filter_map (λ w. record_of w (s.journey w)) (filter (λ w. is_late (s.journey w) && is_on_plan (s.journey w) p) wagons) ≡
      filter_map (λ w. record_of w (t.journey w)) (filter (λ w. is_late (t.journey w) && is_on_plan (t.journey w) p) wagons)
  late_records [] h = refl
  late_records (w ∷ wagons) h =
      let here = h w (has_first w wagons) in
      let rest = late_records wagons (λ v e. h v (or_right _ _ e)) in
      one_more (λ v. record_of v (s.journey v)) w (filter (λ v. is_late (s.journey v) && is_on_plan (s.journey v) p) wagons) (is_late (s.journey w) && is_on_plan (s.journey w) p) ∙
      rw (here, rest) refl ∙
      sym (one_more (λ v. record_of v (t.journey v)) w (filter (λ v. is_late (t.journey v) && is_on_plan (t.journey v) p) wagons) (is_late (t.journey w) && is_on_plan (t.journey w) p))

module _ (names : Names) (s t : HubState) (k : KeepsSides names s) (a : AreSameFor names s t) where
  unit_by_wagon : (by : Railway) (o : Option ℕ) → ((w : ℕ) → o ≡ Some w → s.journey w ≡ t.journey w) → unit_reply s by o ≡ unit_reply t by o
  unit_by_wagon by None h = refl
  unit_by_wagon by (Some w) h = rw (h w refl) refl

  deviation_by_plan : (by : Railway) (c : ConsignmentId) → names.consignment c ≡ true → (o : Option Trip) → s.plan_of c ≡ o → deviation_reply s by o ≡ deviation_reply t by o
  deviation_by_plan by c h None e = refl
  deviation_by_plan by c h (Some p) e =
      ap (λ rs. cond (bytes_eq p.lead by) (Many rs) (refusal_reply NotYours None)) (late_records s t p p.wagons (λ w f. a.journey w (k.plans c p w e f ∙ h)))

  pub reply_alike : ReplyAlike names s t
  reply_alike (Send m) h = reply-same s t m (same_at names s t k a m h.0 h.1)
  reply_alike (Ask by w) h = rw (a.journey w h) refl
  reply_alike (AskUnit by u) h =
      unit_by_wagon by (unit_wagon s u) (λ w e. a.journey w (unit_wagon-side names s k u w e ∙ h)) ∙
      ap (unit_reply t by) (unit_wagon-same names s t k a u h)
  reply_alike (Deviation by c) h = deviation_by_plan by c h (s.plan_of c) refl ∙ ap (deviation_reply t by) (a.plan_of c h)
  reply_alike (Fetch by limit) h = absurd h
  reply_alike (Ack by n) h = absurd h
