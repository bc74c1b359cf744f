-- What is told of a wagon's estimates, leg by leg.
use Rattle.hub_items.proofs.Common.{◌≡◌, ℕ, zero, suc, ◌+◌, ◌<◌, ◌≤◌, add-one, leg_index, Bool, true, List, [], ◌∷◌, ◌++◌, length, Option, refl, ap, sym, ◌∙◌, arith, common_steps, filter, filter_map, flat_map, ◌||◌, slice_get, option_map, option_to_list, option_and_then, map-id, map-range_with_len_more, range_with_len, or_right, numbers, texts, has, legs, runner_of, EstimatesState, estimates_state, end_in, eta_in, estimate, late_by, lateness, is_news, estimate_item, estimate_items, alert_items, Transition, estimate_of, news_of}

-- what is there of each
pub found_of_each : {A B : Type 0} (f : A → Option B) (xs : List A) → filter_map f xs ≡ flat_map (λ x. option_to_list (f x)) xs
found_of_each f [] = refl
found_of_each f (x ∷ xs) = grind (arith, common_steps, found_of_each f xs)

-- what is made of each that passes
passed_of_each : {A B C : Type 0} (g : B → List C) (p : B → Bool) (f : A → Option B) (xs : List A) →
    flat_map g (filter p (filter_map f xs)) ≡ flat_map (λ x. flat_map g (filter p (option_to_list (f x)))) xs
passed_of_each g p f [] = refl
passed_of_each g p f (x ∷ xs) = grind (arith, common_steps, passed_of_each g p f xs)

-- where each gives nothing, all give nothing
pub none_of_each : {B : Type 0} (f : ℕ → List B) (ws : List ℕ) → ((w : ℕ) → has ws w ≡ true → f w ≡ []) → flat_map f ws ≡ []
none_of_each f [] h = refl
none_of_each f (w ∷ ws) h =
    ap (λ xs. xs ++ flat_map f ws) (h w (ap (λ (b : Bool). b || has ws w) (numbers.itself w))) ∙ none_of_each f ws (λ v k. h v (or_right _ (has ws v) k))

-- the legs up to one more
pub one_leg_more : (n : ℕ) → range_with_len 0 (n + 1) ≡ range_with_len 0 n ++ n ∷ []
one_leg_more n = simp map-id at (map-range_with_len_more (λ x. x) 0 n n (omega arith))

-- where each of the first legs gives nothing, all give nothing
none_up_to : {B : Type 0} (f : ℕ → List B) (n : ℕ) → ((j : ℕ) → j < n → f j ≡ []) → flat_map f (range_with_len 0 n) ≡ []
none_up_to f zero h = refl
none_up_to f (suc n) h =
    ap (flat_map f) (ap (range_with_len 0) (sym (add-one n)) ∙ one_leg_more n) ∙ grind (arith, common_steps, none_up_to f n (λ j k. h j (omega arith)), h n (omega arith))

module _ (t : Transition) where
  pub news_of_each : estimate_items t.before t.after t.wagon ≡ flat_map (news_of t) (range_with_len 0 (length (legs t.after)))
  news_of_each = passed_of_each (estimate_item t.after t.wagon) (is_news t.before t.after) (estimate_of t) (range_with_len 0 (length (legs t.after)))

  -- a leg behind the wagon has no estimate
  behind : (j : ℕ) → j < leg_index t.after → news_of t j ≡ []
  behind j h = grind (arith, common_steps)

  -- so there is no news of the legs behind it
  pub none_behind : (n : ℕ) → n ≤ leg_index t.after → flat_map (news_of t) (range_with_len 0 n) ≡ []
  none_behind n h = none_up_to (news_of t) n (λ j k. behind j (omega arith))

  module _ (same : estimates_state t.after ≡ estimates_state t.before) where
    estimate_left : (j : ℕ) → estimate t.after j ≡ estimate t.before j
    estimate_left j = ap (λ (s : EstimatesState). end_in s.estimate_basis j) same

    runner_left : (i : ℕ) → runner_of t.after i ≡ runner_of t.before i
    runner_left i = ap (λ (s : EstimatesState). option_map (λ l. l.ru) (slice_get s.estimate_basis.legs i)) same

    late_by_left : late_by t.after ≡ late_by t.before
    late_by_left = ap (λ (s : EstimatesState). option_and_then (λ commit. option_and_then (lateness commit) (eta_in s.estimate_basis)) s.commit) same

    no_news : (j : ℕ) → news_of t j ≡ []
    no_news j = grind (arith, common_steps, estimate_left j, runner_left (j + 1), numbers.itself, texts.itself)

    -- where estimates are counted from what they were counted from before, none is news
    pub no_estimate_items : estimate_items t.before t.after t.wagon ≡ []
    no_estimate_items = news_of_each ∙ none_of_each (news_of t) _ (λ j h. no_news j)

    -- and no alert begins or ends
    pub no_alert_items : alert_items t.before t.after t.wagon ≡ []
    no_alert_items = rw late_by_left (grind (arith, common_steps))
