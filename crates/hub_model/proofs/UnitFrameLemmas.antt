-- A message leaves the units that it doesn't count with as busy as they were.
use Rattle.hub_model.proofs.Common.{◌≡◌, ℕ, Bool, true, false, cond, not, List, [], ◌∷◌, ◌++◌, Option, Some, None, refl, ap, ◌∙◌, sym, subst, inl, inr, is_some, is_none, option_map, bytes_eq, option_or, option_map_or, option_and_then, and_parts, or_left, or_right, cases_Bool, false≢true, true≢false, bytes_eq-Decides, UnitCode, is_text, Trip, has, loads, Call, Send, ConsignmentTaken, Message, Body, Event, EventBody, Planned, newest, plan, plan_in, is_plan, is_delivered, plan-push, HubState, named_wagons, event_for, event_body_for, with_event, journey_after, is_on_plan, loaded_on, wagon_by, unit_wagon, is_unit_busy, units_in, fault, whole_fault, plan_given, unit_plan_given, step, state_after, accepts, accepted_in, affected_wagons, affects_unit, some_left, some_right}
use Rattle.taf_messages.specs.declared.message.Body.TheVariants as body
use Rattle.hub_model.proofs.NoFaultLemmas.{no_whole_fault, planned_anew}
use Rattle.hub_model.proofs.OfferOpeningLemmas.{none_fault}
use Rattle.hub_model.proofs.ListLemmas.{plan_of_list, unit_plan_list}
use Rattle.hub_model.proofs.StepLemmas.{step-journey}
use Rattle.hub_model.proofs.FrameLemmas.{journey-other, unit_plan-other}
use Rattle.hub_model.proofs.ApartLemmas.{counts_named}

-- the plan of a unit is the plan of its consignment
abbrev pub KnowsPlans : HubState → Type 0
KnowsPlans s = (u : UnitCode) (p : Trip) → s.unit_plan u ≡ Some p → is_some (s.plan_of p.consignment) ≡ true

pub some_was : {A : Type 0} (x y : A) → Path (Option A) (Some x) (Some y) → x ≡ y
some_was x y e = cc

pub none_is_some : {A : Type 0} (x : A) → Path (Option A) None (Some x) → ⊥
none_is_some x e = cc

its_plan : (b : Bool) (q p : Trip) → cond b (Some q) None ≡ Some p → is_some (cond (bytes_eq q.consignment p.consignment) (Some q) None) ≡ true
its_plan true q p h =
    let same : bytes_eq q.consignment p.consignment ≡ true = (bytes_eq-Decides q.consignment p.consignment).1 (ap (λ t. t.consignment) (some_was q p h)) in
    ap (λ b. is_some (cond b (Some q) None)) same
its_plan false q p h = absurd (none_is_some p h)

given_both : (says : Body) (u : UnitCode) (p : Trip) → unit_plan_given says u ≡ Some p → is_some (plan_given says p.consignment) ≡ true
given_both (body.Plan q) u p h = its_plan (loads q.units u) q p h
given_both (body.Movement m) u p h = absurd (none_is_some p h)
given_both (body.EtiAsk w) u p h = absurd (none_is_some p h)
given_both (body.LegTime w leg minutes) u p h = absurd (none_is_some p h)
given_both (body.Offer o) u p h = absurd (none_is_some p h)
given_both (body.Answer a) u p h = absurd (none_is_some p h)
given_both (body.Withdraw at n) u p h = absurd (none_is_some p h)
given_both (body.Reroute w route) u p h = absurd (none_is_some p h)

either_given : (m : Message) (u : UnitCode) (p : Trip) (later : Option Trip) (rest : Option Trip) → (later ≡ Some p → is_some rest ≡ true) → option_or later (unit_plan_given m.body u) ≡ Some p →
    is_some (option_or rest (plan_given m.body p.consignment)) ≡ true
either_given m u p (Some q) rest k h = some_left rest (plan_given m.body p.consignment) (k h)
either_given m u p None rest k h = some_right rest (plan_given m.body p.consignment) (given_both m.body u p h)

known_in : (messages : List Message) (u : UnitCode) (p : Trip) → newest (λ m. unit_plan_given m.body u) messages ≡ Some p → is_some (newest (λ m. plan_given m.body p.consignment) messages) ≡ true
known_in [] u p h = absurd (none_is_some p h)
known_in (m ∷ messages) u p h =
    either_given m u p (newest (λ k. unit_plan_given k.body u) messages) (newest (λ k. plan_given k.body p.consignment) messages) (known_in messages u p) h

pub knows_plans : (calls : List Call) → KnowsPlans (state_after calls)
knows_plans calls u p h = ap is_some (plan_of_list p.consignment calls) ∙ known_in (accepted_in calls) u p (sym (unit_plan_list u calls) ∙ h)

-- what is not a plan leaves the plan of the journey
no_plan_in : (says : EventBody) → is_plan says ≡ false → plan_in says ≡ None
no_plan_in (Planned p) h = absurd (true≢false h)
no_plan_in _ h = refl

pub plan_goes_on : (events : List Event) (e : Event) → is_plan e.body ≡ false → plan (with_event events e) ≡ plan events
plan_goes_on [] e h = rw h refl
plan_goes_on (first ∷ events) e h =
    let on : with_event (first ∷ events) e ≡ (first ∷ events) ++ e ∷ [] = rw h refl in
    ap plan on ∙ plan-push (first ∷ events) e ∙ ap (λ o. option_or o (plan (first ∷ events))) (no_plan_in e.body h)

pub taken_already : (b : Bool) → cond b (Some ConsignmentTaken) None ≡ None → b ≡ true → ⊥
taken_already true h e = let z : Some ConsignmentTaken ≡ None = h in cc
taken_already false h e = false≢true e

module _ (s : HubState) (p : Trip) (w : ℕ) (off : is_on_plan (s.journey w) p ≡ false) (known : is_some (s.plan_of p.consignment) ≡ true) where
  -- a wagon that is not on the plan is not put on it
  still_off_on : (n : Message) → is_plan (event_body_for s.offer n.by n.body w) ≡ false → is_on_plan (with_event (s.journey w) (event_for s.offer n w)) p ≡ false
  still_off_on n h = ap (λ q. is_text (option_map (λ t. t.consignment) q) p.consignment) (plan_goes_on (s.journey w) (event_for s.offer n w) h) ∙ off

  off_anew : (q : Trip) → whole_fault s q.lead (body.Plan q) ≡ None → bytes_eq q.consignment p.consignment ≡ false
  off_anew q f =
      elim (cases_Bool (bytes_eq q.consignment p.consignment)) [
        | inl e ↦ absurd (taken_already _ f (ap (λ c. is_some (s.plan_of c)) ((bytes_eq-Decides q.consignment p.consignment).0 e) ∙ known))
        | inr e ↦ e
      ]

  still_off_by : (n : Message) (says : Body) → n.body ≡ says → fault s n ≡ None → is_on_plan (with_event (s.journey w) (event_for s.offer n w)) p ≡ false
  still_off_by n (body.Plan q) e f =
      let m : Message = record { by = n.by; no = n.no; body = body.Plan q } in
      let same : n ≡ m = λ i. record { by = n.by; no = n.no; body = e i } in
      let whole = no_whole_fault s m (subst (λ k. fault s k ≡ None) same f) in
      ap (λ k. is_on_plan (with_event (s.journey w) (event_for s.offer k w)) p) same ∙
      ap (λ events. is_on_plan events p) (planned_anew (s.journey w) (event_for s.offer m w) refl) ∙
      off_anew q whole
  still_off_by n (body.Movement m) e f = still_off_on n (ap (λ b. is_plan (event_body_for s.offer n.by b w)) e)
  still_off_by n (body.EtiAsk v) e f = still_off_on n (ap (λ b. is_plan (event_body_for s.offer n.by b w)) e)
  still_off_by n (body.LegTime v leg minutes) e f = still_off_on n (ap (λ b. is_plan (event_body_for s.offer n.by b w)) e)
  still_off_by n (body.Offer o) e f = still_off_on n (ap (λ b. is_plan (event_body_for s.offer n.by b w)) e)
  still_off_by n (body.Answer a) e f = still_off_on n (ap (λ b. is_plan (event_body_for s.offer n.by b w)) e)
  still_off_by n (body.Withdraw at k) e f = still_off_on n (ap (λ b. is_plan (event_body_for s.offer n.by b w)) e)
  still_off_by n (body.Reroute v route) e f = still_off_on n (ap (λ b. is_plan (event_body_for s.offer n.by b w)) e)

  still_off_named : (n : Message) (h : Bool) → fault s n ≡ None → is_on_plan (cond h (with_event (s.journey w) (event_for s.offer n w)) (s.journey w)) p ≡ false
  still_off_named n true f = still_off_by n n.body refl f
  still_off_named n false f = off

  still_off_taken : (n : Message) (b : Bool) → accepts s n ≡ b → is_on_plan (cond b (journey_after s n w) (s.journey w)) p ≡ false
  still_off_taken n true t = still_off_named n (has (named_wagons s.offer n) w) (none_fault (fault s n) ((and_parts (is_none (s.first_send n.by n.no)) (is_none (fault s n)) t).1))
  still_off_taken n false t = off

  pub still_off : (n : Message) → is_on_plan ((step s (Send n)).journey w) p ≡ false
  still_off n = ap (λ events. is_on_plan events p) (step-journey s n w) ∙ still_off_taken n (accepts s n) refl

-- two choices of a wagon, or of none
same_choice : (b c : Bool) (w : ℕ) (f g : ℕ → Bool) → b ≡ c → f w ≡ g w → option_map_or f (cond b (Some w) None) false ≡ option_map_or g (cond c (Some w) None) false
same_choice true c w f g e k = k ∙ ap (λ b. option_map_or g (cond b (Some w) None) false) e
same_choice false c w f g e k = ap (λ b. option_map_or g (cond b (Some w) None) false) e

-- whether a unit that this plan loads on this wagon is busy
abbrev busy_on : (ℕ → List Event) → Trip → Option ℕ → Bool
busy_on journey p o = option_map_or (λ v. not (is_delivered (journey v))) (wagon_by journey p o) false

module _ (s : HubState) (n : Message) (u : UnitCode) (knows : KnowsPlans s) (uncounted : affects_unit s n u ≡ true → ⊥) where
  abbrev after : HubState
  after = step s (Send n)

  same_events : (p : Trip) (w : ℕ) → after.journey w ≡ s.journey w → busy_on s.journey p (Some w) ≡ busy_on after.journey p (Some w)
  same_events p w e =
      same_choice (is_on_plan (s.journey w) p) (is_on_plan (after.journey w) p) w (λ v. not (is_delivered (s.journey v))) (λ v. not (is_delivered (after.journey v)))
      (ap (λ events. is_on_plan events p) (sym e)) (ap (λ events. not (is_delivered events)) (sym e))

  off_plan : (p : Trip) (w : ℕ) → is_on_plan (s.journey w) p ≡ false → is_on_plan (after.journey w) p ≡ false → busy_on s.journey p (Some w) ≡ busy_on after.journey p (Some w)
  off_plan p w e f =
      ap (λ b. option_map_or (λ v. not (is_delivered (s.journey v))) (cond b (Some w) None) false) e ∙
      sym (ap (λ b. option_map_or (λ v. not (is_delivered (after.journey v))) (cond b (Some w) None) false) f)

  wagon_counted : (p : Trip) (w : ℕ) → s.unit_plan u ≡ Some p → loaded_on p u ≡ Some w → is_on_plan (s.journey w) p ≡ true → has (named_wagons s.offer n) w ≡ true → ⊥
  wagon_counted p w e l on h =
      let wagon : unit_wagon s u ≡ Some w = ap (λ o. option_and_then (λ q. wagon_by s.journey q (loaded_on q u)) o) e ∙ ap (wagon_by s.journey p) l ∙ ap (λ b. cond b (Some w) None) on in
      uncounted (or_right (loads (units_in n.body) u) _ (ap (λ o. option_map_or (λ v. has (affected_wagons s n n.body) v) o false) wagon ∙ counts_named s n n.body w h))

  by_wagon : (p : Trip) (o : Option ℕ) → s.unit_plan u ≡ Some p → loaded_on p u ≡ o → busy_on s.journey p o ≡ busy_on after.journey p o
  by_wagon p None e l = refl
  by_wagon p (Some w) e l =
      elim (cases_Bool (has (named_wagons s.offer n) w)) [
        | inr h ↦ same_events p w (journey-other s n w (λ k. true≢false (sym k ∙ h)))
        | inl h ↦ (elim (cases_Bool (is_on_plan (s.journey w) p)) [
          | inl on ↦ absurd (wagon_counted p w e l on h)
          | inr off ↦ off_plan p w off (still_off s p w off (knows u p e) n)
        ])
      ]

  by_plan : (o : Option Trip) → s.unit_plan u ≡ o →
      option_map_or (λ v. not (is_delivered (s.journey v))) (option_and_then (λ p. wagon_by s.journey p (loaded_on p u)) o) false ≡
      option_map_or (λ v. not (is_delivered (after.journey v))) (option_and_then (λ p. wagon_by after.journey p (loaded_on p u)) o) false
  by_plan None e = refl
  by_plan (Some p) e = by_wagon p (loaded_on p u) e refl

  pub busy-other : is_unit_busy s u ≡ is_unit_busy after u
  busy-other =
      by_plan (s.unit_plan u) refl ∙
      ap (λ o. option_map_or (λ v. not (is_delivered (after.journey v))) (option_and_then (λ p. wagon_by after.journey p (loaded_on p u)) o) false)
      (sym (unit_plan-other s n u (λ h. uncounted (or_left _ _ h))))
