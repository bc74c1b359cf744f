-- A message changes the look-ups at its names alone, and there by what it reads.
use Rattle.hub_model.proofs.Common.{◌≡◌, ℕ, Bool, true, false, cond, [], Option, Some, None, refl, ap, ◌∙◌, sym, ◌&&◌, bytes_eq, is_none, unwrap_or, option_or, and_parts, bytes_eq-Decides, Railway, UnitCode, ConsignmentId, has, loads, Send, Message, Body, same_name, HubState, FirstSend, named_wagons, journey_after, units_in, fault, items_of, items_to, reply_to, send_reply, verdict, plan_given, unit_plan_given, offer_given, opening_given, step, accepts, consignment_in, offer_named}
use Rattle.taf_messages.specs.declared.message.Body.TheVariants as body
use Rattle.hub_model.proofs.NamedWagonLemmas.{from_same_name, some_name}
use Rattle.hub_model.proofs.DependencyLemmas.{AreSameAt, reads_alike, journey_after-same, fault-same, items_of-same}
use Rattle.hub_model.proofs.StepLemmas.{first_after, added, step-journey, step-plan_of, step-unit_plan, step-offer, step-is_open, step-first_send}

some_text : (a b : ConsignmentId) → a ≡ b → Path (Option ConsignmentId) (Some a) (Some b)
some_text a b e = cc

-- a choice between equals, and equal choices
cond_either : {A : Type 0} (b : Bool) (x y : A) → x ≡ y → cond b x y ≡ y
cond_either true x y e = e
cond_either false x y e = refl

cond_never : {A : Type 0} (b : Bool) (x y : A) → (b ≡ true → ⊥) → cond b x y ≡ y
cond_never true x y never = absurd (never refl)
cond_never false x y never = refl

cond_same : {A : Type 0} (b c : Bool) (x y z u : A) → b ≡ c → x ≡ z → y ≡ u → cond b x y ≡ cond c z u
cond_same b c x y z u e f g = cc

-- look-ups at other names stay
pub journey-other : (s : HubState) (m : Message) (w : ℕ) → (has (named_wagons s.offer m) w ≡ true → ⊥) → (step s (Send m)).journey w ≡ s.journey w
journey-other s m w other = step-journey s m w ∙ cond_either (accepts s m) (journey_after s m w) (s.journey w) (cond_never (has (named_wagons s.offer m) w) _ (s.journey w) other)

plan_other : (says : Body) (c : ConsignmentId) → (Path (Option ConsignmentId) (consignment_in says) (Some c) → ⊥) → plan_given says c ≡ None
plan_other (body.Plan p) c other = cond_never (bytes_eq p.consignment c) (Some p) None (λ h. other (some_text p.consignment c ((bytes_eq-Decides p.consignment c).0 h)))
plan_other _ c other = refl

pub plan_of-other : (s : HubState) (m : Message) (c : ConsignmentId) → (Path (Option ConsignmentId) (consignment_in m.body) (Some c) → ⊥) → (step s (Send m)).plan_of c ≡ s.plan_of c
plan_of-other s m c other = step-plan_of s m c ∙ cond_either (accepts s m) _ (s.plan_of c) (ap (λ o. option_or o (s.plan_of c)) (plan_other m.body c other))

unit_plan_other : (says : Body) (u : UnitCode) → (loads (units_in says) u ≡ true → ⊥) → unit_plan_given says u ≡ None
unit_plan_other (body.Plan p) u other = cond_never (loads p.units u) (Some p) None other
unit_plan_other _ u other = refl

pub unit_plan-other : (s : HubState) (m : Message) (u : UnitCode) → (loads (units_in m.body) u ≡ true → ⊥) → (step s (Send m)).unit_plan u ≡ s.unit_plan u
unit_plan-other s m u other = step-unit_plan s m u ∙ cond_either (accepts s m) _ (s.unit_plan u) (ap (λ o. option_or o (s.unit_plan u)) (unit_plan_other m.body u other))

-- a name that is not given
unnamed : {A : Type 0} (by also : Railway) (n k : ℕ) (x : A) → (Path (Option (Railway × ℕ)) (Some (by, n)) (Some (also, k)) → ⊥) → cond (same_name by n also k) (Some x) None ≡ None
unnamed by also n k x other =
    cond_never (same_name by n also k) (Some x) None (λ h. let e = from_same_name by also n k h in other (some_name by also n k e.0 e.1))

offer_other : (m : Message) (says : Body) (by : Railway) (n : ℕ) → (Path (Option (Railway × ℕ)) (offer_named m says) (Some (by, n)) → ⊥) → offer_given m says by n ≡ None
offer_other m (body.Offer o) by n other = unnamed m.by by m.no n _ other
offer_other m _ by n other = refl

opening_other : (m : Message) (says : Body) (by : Railway) (n : ℕ) → (Path (Option (Railway × ℕ)) (offer_named m says) (Some (by, n)) → ⊥) → opening_given m says by n ≡ None
opening_other m (body.Offer o) by n other = unnamed m.by by m.no n true other
opening_other m (body.Answer a) by n other = unnamed a.offerer by a.offer n false other
opening_other m (body.Withdraw at k) by n other = unnamed m.by by k n false other
opening_other m _ by n other = refl

pub offer-other : (s : HubState) (m : Message) (by : Railway) (n : ℕ) → (Path (Option (Railway × ℕ)) (offer_named m m.body) (Some (by, n)) → ⊥) → (step s (Send m)).offer by n ≡ s.offer by n
offer-other s m by n other = step-offer s m by n ∙ cond_either (accepts s m) _ (s.offer by n) (ap (λ o. option_or o (s.offer by n)) (offer_other m m.body by n other))

pub is_open-other : (s : HubState) (m : Message) (by : Railway) (n : ℕ) → (Path (Option (Railway × ℕ)) (offer_named m m.body) (Some (by, n)) → ⊥) → (step s (Send m)).is_open by n ≡ s.is_open by n
is_open-other s m by n other = step-is_open s m by n ∙ cond_either (accepts s m) _ (s.is_open by n) (ap (λ o. unwrap_or o (s.is_open by n)) (opening_other m m.body by n other))

pub first_send-other : (s : HubState) (m : Message) (by : Railway) (n : ℕ) → (m.by ≡ by → m.no ≡ n → ⊥) → (step s (Send m)).first_send by n ≡ s.first_send by n
first_send-other s m by n other =
    step-first_send s m by n ∙
    cond_never (is_none (s.first_send m.by m.no) && same_name m.by m.no by n) _ (s.first_send by n)
    (λ h. let e = from_same_name m.by by m.no n ((and_parts (is_none (s.first_send m.by m.no)) (same_name m.by m.no by n) h).1) in other e.0 e.1)

-- where the same is looked up at the names of a message, it changes each look-up alike
pub accepts-same : (s t : HubState) (m : Message) → AreSameAt s t m → accepts s m ≡ accepts t m
accepts-same s t m a = let f = fault-same s t m a in rw (a.first_sends, f) refl

reply_by_first : (s t : HubState) (m : Message) → fault s m ≡ fault t m → (first : Option FirstSend) → send_reply s m first ≡ send_reply t m first
reply_by_first s t m f (Some first) = refl
reply_by_first s t m f None = ap (verdict m.no) f

pub reply-same : (s t : HubState) (m : Message) → AreSameAt s t m → reply_to s (Send m) ≡ reply_to t (Send m)
reply-same s t m a = reply_by_first s t m (fault-same s t m a) (s.first_send m.by m.no) ∙ ap (send_reply t m) a.first_sends

module _ (s t : HubState) (m : Message) (a : AreSameAt s t m) where
  -- a look-up that goes by whether the message is accepted
  chosen-same : {A : Type 0} (x y z u : A) → x ≡ z → y ≡ u → cond (accepts s m) x y ≡ cond (accepts t m) z u
  chosen-same x y z u e f = cond_same (accepts s m) (accepts t m) x y z u (accepts-same s t m a) e f

  pub journey-same : (w : ℕ) → s.journey w ≡ t.journey w → (step s (Send m)).journey w ≡ (step t (Send m)).journey w
  journey-same w e =
      step-journey s m w ∙
      chosen-same (journey_after s m w) (s.journey w) (journey_after t m w) (t.journey w) (journey_after-same s t m (reads_alike s t m a) w e) e ∙
      sym (step-journey t m w)

  pub plan_of-same : (c : ConsignmentId) → s.plan_of c ≡ t.plan_of c → (step s (Send m)).plan_of c ≡ (step t (Send m)).plan_of c
  plan_of-same c e =
      step-plan_of s m c ∙
      chosen-same (option_or (plan_given m.body c) (s.plan_of c)) (s.plan_of c) (option_or (plan_given m.body c) (t.plan_of c)) (t.plan_of c) (ap (option_or (plan_given m.body c)) e) e ∙
      sym (step-plan_of t m c)

  pub unit_plan-same : (u : UnitCode) → s.unit_plan u ≡ t.unit_plan u → (step s (Send m)).unit_plan u ≡ (step t (Send m)).unit_plan u
  unit_plan-same u e =
      step-unit_plan s m u ∙
      chosen-same (option_or (unit_plan_given m.body u) (s.unit_plan u)) (s.unit_plan u) (option_or (unit_plan_given m.body u) (t.unit_plan u)) (t.unit_plan u) (ap (option_or (unit_plan_given m.body u)) e) e ∙
      sym (step-unit_plan t m u)

  pub offer-same : (by : Railway) (n : ℕ) → s.offer by n ≡ t.offer by n → (step s (Send m)).offer by n ≡ (step t (Send m)).offer by n
  offer-same by n e =
      step-offer s m by n ∙
      chosen-same (option_or (offer_given m m.body by n) (s.offer by n)) (s.offer by n) (option_or (offer_given m m.body by n) (t.offer by n)) (t.offer by n) (ap (option_or (offer_given m m.body by n)) e) e ∙
      sym (step-offer t m by n)

  pub is_open-same : (by : Railway) (n : ℕ) → s.is_open by n ≡ t.is_open by n → (step s (Send m)).is_open by n ≡ (step t (Send m)).is_open by n
  is_open-same by n e =
      step-is_open s m by n ∙
      chosen-same (unwrap_or (opening_given m m.body by n) (s.is_open by n)) (s.is_open by n) (unwrap_or (opening_given m m.body by n) (t.is_open by n)) (t.is_open by n) (ap (unwrap_or (opening_given m m.body by n)) e) e ∙
      sym (step-is_open t m by n)

  pub first_send-same : (by : Railway) (n : ℕ) → s.first_send by n ≡ t.first_send by n → (step s (Send m)).first_send by n ≡ (step t (Send m)).first_send by n
  first_send-same by n e =
      step-first_send s m by n ∙
      ap (λ o. first_after m o (fault s m) (s.first_send by n) by n) a.first_sends ∙
      ap (λ g. first_after m (t.first_send m.by m.no) g (s.first_send by n) by n) (fault-same s t m a) ∙
      ap (λ o. first_after m (t.first_send m.by m.no) (fault t m) o by n) e ∙
      sym (step-first_send t m by n)

  pub added-same : (r : Railway) → added s m r ≡ added t m r
  added-same r = chosen-same (items_to r (items_of s m)) [] (items_to r (items_of t m)) [] (ap (items_to r) (items_of-same s t m (reads_alike s t m a))) refl
