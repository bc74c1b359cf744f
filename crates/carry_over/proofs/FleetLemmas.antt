-- The fleet of these names, and the records of its wagons.
use Rattle.hub_model.proofs.Common.{◌≡◌, ℕ, Bool, true, false, cond, not, List, [], ◌∷◌, ◌++◌, refl, ap, ◌∙◌, sym, eqb, append-nil, ◌||◌, filter, filter-append, inl, inr, or_cases, or_left, or_right, eqb-true, eq-eqb, false≢true, true≢false, cases_Bool, has, Message, Body, HubState, planned_in, each_wagon, fleet_after, step, accepts, Send}
use Rattle.taf_messages.specs.declared.message.Body.TheVariants as body
use Rattle.hub_model.specs.Replies.{records_of}
use Rattle.hub_model.proofs.DependencyLemmas.{has-left}
use Rattle.hub_model.proofs.StepLemmas.{step_looked_up}
use Rattle.carry_over.specs.Names.{Names, wagons_written}
use Rattle.carry_over.specs.Carried.{AreSameFor}

-- a wagon that passed a sieve was there
sieved_before : (q : ℕ → Bool) (w : ℕ) (us : List ℕ) (v : ℕ) (b : Bool) → has (cond b (w ∷ filter q us) (filter q us)) v ≡ true → (has (filter q us) v ≡ true → has us v ≡ true) → has (w ∷ us) v ≡ true
sieved_before q w us v true h k =
    elim (or_cases (eqb w v) (has (filter q us) v) h) [
      | inl e ↦ or_left _ _ e
      | inr e ↦ or_right _ _ (k e)
    ]
sieved_before q w us v false h k = or_right _ _ (k h)

has_before : (q : ℕ → Bool) (us : List ℕ) (v : ℕ) → has (filter q us) v ≡ true → has us v ≡ true
has_before q [] v h = h
has_before q (w ∷ us) v h = sieved_before q w us v (q w) h (has_before q us v)

has_each : (ws : List ℕ) (v : ℕ) → has (each_wagon ws) v ≡ true → has ws v ≡ true
has_each [] v h = h
has_each (w ∷ ws) v h =
    elim (or_cases (eqb w v) (has (filter (λ u. not (eqb w u)) (each_wagon ws)) v) h) [
      | inl e ↦ or_left _ _ e
      | inr e ↦ or_right _ _ (has_each ws v (has_before (λ u. not (eqb w u)) (each_wagon ws) v e))
    ]

module _ (p : ℕ → Bool) where
  kept_choice : (w v : ℕ) (us : List ℕ) (b : Bool) → p w ≡ b → p v ≡ true → has (filter p us) v ≡ has us v → has (cond b (w ∷ filter p us) (filter p us)) v ≡ (eqb w v || has us v)
  kept_choice w v us true e h k = ap (λ x. eqb w v || x) k
  kept_choice w v us false e h k =
      elim (cases_Bool (eqb w v)) [
        | inl f ↦ absurd (true≢false (sym h ∙ ap p (sym (eqb-true w v f)) ∙ e))
        | inr f ↦ k ∙ ap (λ x. x || has us v) (sym f)
      ]

  -- a wagon that passes is there where it was
  has_kept : (us : List ℕ) (v : ℕ) → p v ≡ true → has (filter p us) v ≡ has us v
  has_kept [] v h = refl
  has_kept (w ∷ us) v h = kept_choice w v us (p w) refl h (has_kept us v h)

  abbrev all_pass : List ℕ → Type 0
  all_pass us = (v : ℕ) → has us v ≡ true → p v ≡ true

  abbrev none_passes : List ℕ → Type 0
  none_passes us = (v : ℕ) → has us v ≡ true → p v ≡ false

  cond_same : {A : Type 0} (b c : Bool) (x y : A) → b ≡ c → cond b x y ≡ cond c x y
  cond_same b c x y e = ap (λ d. cond d x y) e

  passed : (w : ℕ) (xs ys : List ℕ) (b : Bool) → p w ≡ true → filter p xs ≡ ys → filter p (cond b (w ∷ xs) xs) ≡ cond b (w ∷ ys) ys
  passed w xs ys true h e = cond_same (p w) true (w ∷ filter p xs) (filter p xs) h ∙ ap (λ zs. w ∷ zs) e
  passed w xs ys false h e = e

  -- new wagons that all pass are new to those that passed
  new_kept : (before us : List ℕ) → all_pass us → filter p (filter (λ w. not (has before w)) us) ≡ filter (λ w. not (has (filter p before) w)) us
  new_kept before [] h = refl
  new_kept before (w ∷ us) h =
      let here = h w (or_left _ _ (eq-eqb w w refl)) in
      let rest = new_kept before us (λ v e. h v (or_right _ _ e)) in
      passed w (filter (λ v. not (has before v)) us) (filter (λ v. not (has (filter p before) v)) us) (not (has before w)) here rest ∙
      cond_same (not (has before w)) (not (has (filter p before) w)) (w ∷ filter (λ v. not (has (filter p before) v)) us) (filter (λ v. not (has (filter p before) v)) us) (ap not (sym (has_kept before w here)))

  dropped : (w : ℕ) (xs : List ℕ) (b : Bool) → p w ≡ false → filter p xs ≡ [] → filter p (cond b (w ∷ xs) xs) ≡ []
  dropped w xs true h e = cond_same (p w) false (w ∷ filter p xs) (filter p xs) h ∙ e
  dropped w xs false h e = e

  new_dropped : (before us : List ℕ) → none_passes us → filter p (filter (λ w. not (has before w)) us) ≡ []
  new_dropped before [] h = refl
  new_dropped before (w ∷ us) h =
      dropped w (filter (λ v. not (has before v)) us) (not (has before w)) (h w (or_left _ _ (eq-eqb w w refl))) (new_dropped before us (λ v e. h v (or_right _ _ e)))

  pub fleet-kept : (before wagons : List ℕ) → all_pass wagons → fleet_after (filter p before) wagons ≡ filter p (fleet_after before wagons)
  fleet-kept before wagons h =
      sym (filter-append p before (filter (λ w. not (has before w)) (each_wagon wagons)) ∙
      ap (λ xs. filter p before ++ xs) (new_kept before (each_wagon wagons) (λ v e. h v (has_each wagons v e))))

  pub fleet-dropped : (before wagons : List ℕ) → none_passes wagons → filter p before ≡ filter p (fleet_after before wagons)
  fleet-dropped before wagons h =
      sym (filter-append p before (filter (λ w. not (has before w)) (each_wagon wagons)) ∙
      ap (λ xs. filter p before ++ xs) (new_dropped before (each_wagon wagons) (λ v e. h v (has_each wagons v e))) ∙
      append-nil (filter p before))

-- what a message plans is written in it
pub planned_written : (says : Body) (w : ℕ) → has (planned_in says) w ≡ true → has (wagons_written says) w ≡ true
planned_written (body.Plan p) w h = has-left p.wagons _ w h
planned_written _ w h = absurd (false≢true h)

pub fleet-step : (s : HubState) (m : Message) → (step s (Send m)).fleet ≡ cond (accepts s m) (fleet_after s.fleet (planned_in m.body)) s.fleet
fleet-step s m = step_looked_up (λ t. t.fleet) (λ t n reply. refl) s m

-- records of wagons with the same journeys
records_choice : (names : Names) (s t : HubState) (w : ℕ) (us : List ℕ) (b : Bool) → names.wagon w ≡ b → AreSameFor names s t → records_of t us ≡ records_of s us →
    records_of t (cond b (w ∷ us) us) ≡ records_of s (cond b (w ∷ us) us)
records_choice names s t w us true e a k = rw (a.journey w e, k) refl
records_choice names s t w us false e a k = k

pub records-same : (names : Names) (s t : HubState) → AreSameFor names s t → (us : List ℕ) → records_of t (filter names.wagon us) ≡ records_of s (filter names.wagon us)
records-same names s t a [] = refl
records-same names s t a (w ∷ us) = records_choice names s t w (filter names.wagon us) (names.wagon w) refl a (records-same names s t a us)
