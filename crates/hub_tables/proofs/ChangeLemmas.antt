-- Changes of journeys, and how they are taken back.
use Rattle.hub_tables.proofs.Common.{◌≡◌, ℕ, ◌==◌, ◌||◌, Bool, true, false, List, [], ◌∷◌, ◌++◌, refl, sym, ap, subst, ◌∙◌, true≢false, if◌then◌else◌, map-append, All, All-head, All-tail, All-cons, All-nil, slice_get, keys_of, or_right, numbers, has, all_differ, Event, without_newest, HubState, TableEntries, table_state, events_in, Change, changed, known_before, IsChange, AreChanges, IsStateBefore, with_journey, All-pop, Some}
use Rattle.hub_tables.proofs.DifferLemmas.{differ_first, next_differs, named_apart, has_last}

pub changed_more : (cs : List Change) (c : Change) → changed (cs ++ c ∷ []) ≡ changed cs ++ c.wagon ∷ []
changed_more cs c = map-append (λ c. c.wagon) cs (c ∷ [])

has_more : (cs : List Change) (c : Change) (w : ℕ) → has (changed (cs ++ c ∷ [])) w ≡ (has (changed cs) w || c.wagon == w)
has_more cs c w = ap (λ (ws : List ℕ). has ws w) (changed_more cs c) ∙ has_last (changed cs) c.wagon w

module _ (t u : TableEntries) (keys : keys_of u.wagons ≡ keys_of t.wagons) where
  one_same : (c : Change) → events_in u.wagons c.wagon ≡ events_in t.wagons c.wagon → IsChange t c → IsChange u c
  one_same c same is = record {
    position_is = ap (λ (ws : List ℕ). slice_get ws c.position) keys ∙ is.position_is;
    before_is = subst (λ (es : List Event). IsStateBefore es c.before) (sym same) is.before_is;
  }

  -- changes of journeys that stay
  pub each_same : (cs : List Change) → ((w : ℕ) → has (changed cs) w ≡ true → events_in u.wagons w ≡ events_in t.wagons w) → All (IsChange t) cs → All (IsChange u) cs
  each_same [] same all = All-nil (IsChange u)
  each_same (c ∷ cs) same all =
      All-cons (IsChange u) c cs
      (one_same c (same c.wagon (ap (λ (b : Bool). b || has (changed cs) c.wagon) (numbers.itself c.wagon))) (All-head (IsChange t) c cs all))
      (each_same cs (λ w k. same w (or_right (c.wagon == w) (has (changed cs) w) k)) (All-tail (IsChange t) c cs all))

back_by : (a b : Bool) (events : List Event) → (a ≡ true → b ≡ false) →
    (if a then without_newest (if b then without_newest events else events) else (if b then without_newest events else events)) ≡ (if a || b then without_newest events else events)
back_by true true events apart = absurd (true≢false (apart refl))
back_by true false events apart = refl
back_by false true events apart = refl
back_by false false events apart = refl

-- the last of these changes is taken back
module _ (t u : TableEntries) (cs : List Change) (c : Change) (are : AreChanges t (cs ++ c ∷ [])) (back : table_state u ≡ with_journey (table_state t) c.wagon without_newest) where
  at_end : all_differ (changed cs ++ c.wagon ∷ []) ≡ true
  at_end = sym (ap all_differ (changed_more cs c)) ∙ are.differ

  apart : (w : ℕ) → has (changed cs) w ≡ true → (c.wagon == w) ≡ false
  apart w k = named_apart (changed cs) c.wagon w (next_differs (changed cs) c.wagon [] at_end) k

  -- then the others can be
  pub others_left : AreChanges u cs
  others_left = record {
    differ = differ_first (changed cs) (c.wagon ∷ []) at_end;
    each = each_same t u (ap (λ (s : HubState). s.fleet) back) cs (λ w k. ap (λ (s : HubState). s.journey w) back ∙ ap (λ (b : Bool). if b then without_newest (events_in t.wagons w) else events_in t.wagons w) (apart w k))
        (All-pop (IsChange t) (cs ++ c ∷ []) cs (Some c) refl are.each).0;
  }

  -- and what was known before is the same
  pub same_before : known_before u cs ≡ known_before t (cs ++ c ∷ [])
  same_before =
      (λ i. let s = back i in record s { journey = λ w. if has (changed cs) w then without_newest (s.journey w) else s.journey w }) ∙
      (λ i. record (table_state t) {
        journey = λ w. (back_by (has (changed cs) w) (c.wagon == w) (events_in t.wagons w) (apart w) ∙
            ap (λ (b : Bool). if b then without_newest (events_in t.wagons w) else events_in t.wagons w) (sym (has_more cs c w))) i;
      })
