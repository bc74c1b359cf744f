-- Estimates within the calendar.
use Rattle.eti_chain.proofs.Common.{IfSome, inl, inr, cases_lt, nat_tests, take_all, length-drop, sum_by-take-le, ◌≡◌, ℕ, ◌+◌, ◌-◌, ◌≤◌, ◌<◌, Bool, true, false, cond, ltb, leb, List, [], ◌∷◌, length, get_or, take, drop, Option, Some, None, refl, ap, ◌∙◌, sym, arith, zero-add, ◌&&◌, nat_le, sum_by, slice_range, filter_map, option_map, list_all, range_with_len, cons_option, and_from, leb-true, le-leb, lt-ltb, cond-true, cond_both, AllPass-from_list_all, list_all-from_AllPass, get_or-range_with_len, length-range_with_len, last_minute, Leg, EstimateAt, Anchor, EstimateBasis, basis_from, minutes_in, delays_of, end_in, eta_in, fits_in, IsWithin}

-- ---- the end of a leg

-- when leg j ends by an anchor
abbrev end_by : ℕ → List Leg → Anchor → ℕ → ℕ
end_by c ls a j = a.at + cond a.runs_leg (minutes_in (basis_from c ls (Some a))) 0 + a.delays + sum_by (λ l. l.minutes) (slice_range ls (c + 1) (j + 1))

end_is : (c : ℕ) (ls : List Leg) (a : Anchor) (j : ℕ) → c ≤ j → j < length ls → end_in (basis_from c ls (Some a)) j ≡ Some (end_by c ls a j)
end_is c ls a j low high = cond-true (leb c j && ltb j (length ls)) (Some (end_by c ls a j)) None (and_from (leb c j) (ltb j (length ls)) (le-leb c j low) (lt-ltb j (length ls) high))

-- without an anchor no leg has an end
pub no_end : (c : ℕ) (ls : List Leg) (j : ℕ) → end_in (basis_from c ls None) j ≡ None
no_end c ls j = cond_both (leb c j && ltb j (length ls)) None None (λ (o : Option ℕ). o ≡ None) (λ t. refl) (λ t. refl)

-- ---- the calendar

-- an end, if there is one, is within the calendar
abbrev pub in_calendar : Option ℕ → Bool
in_calendar None = true
in_calendar (Some at) = nat_le at last_minute

-- and so are all of these
abbrev all_in : List EstimateAt → Bool
all_in es = list_all (λ e. nat_le e.at last_minute) es

abbrev at_leg : ℕ → ℕ → EstimateAt
at_leg j at = record { leg = j; at = at }

fit_in : (f : ℕ → Option ℕ) (js : List ℕ) → all_in (filter_map (λ j. option_map (at_leg j) (f j)) js) ≡ list_all (λ j. in_calendar (f j)) js
fit_in f [] = refl
fit_in f (j ∷ js) = first (f j) (filter_map (λ j. option_map (at_leg j) (f j)) js) ∙ ap (λ b. in_calendar (f j) && b) (fit_in f js)
  where
    first : (o : Option ℕ) (rest : List EstimateAt) → all_in (cons_option (option_map (at_leg j) o) rest) ≡ (in_calendar o && all_in rest)
    first None rest = refl
    first (Some at) rest = refl

fit_by_ends : (r : EstimateBasis) → ((j : ℕ) → in_calendar (end_in r j) ≡ true) → fits_in r ≡ true
fit_by_ends r h =
    let js = range_with_len 0 (length r.legs) in
    fit_in (end_in r) js ∙ list_all-from_AllPass (λ j. in_calendar (end_in r j)) js (λ k d l. h (get_or js k d))

ends_fit : (r : EstimateBasis) (j : ℕ) → fits_in r ≡ true → in_calendar (end_in r j) ≡ true
ends_fit r j h =
    let js = range_with_len 0 (length r.legs) in
    elim (cases_lt j (length r.legs)) [
      | inl high ↦
          let here : get_or js j 0 ≡ j = get_or-range_with_len 0 (length r.legs) j 0 high ∙ zero-add j in
          let within : j < length js = omega (arith, length-range_with_len 0 (length r.legs)) in
          ap (λ i. in_calendar (end_in r i)) (sym here) ∙ AllPass-from_list_all (λ j. in_calendar (end_in r j)) js (sym (fit_in (end_in r) js) ∙ h) j 0 within
      | inr past ↦ grind (arith, nat_tests)
    ]

-- no estimate of what fits passes the last minute
pub end-fits : (r : EstimateBasis) (j at : ℕ) → fits_in r ≡ true → end_in r j ≡ Some at → at ≤ last_minute
end-fits r j at h e = leb-true at last_minute (ap in_calendar (sym e) ∙ ends_fit r j h)

-- the same of an end that there may be
pub end_fits : (r : EstimateBasis) (j : ℕ) → IsWithin r → (end_in r j ≡ end_in r j) × IfSome (end_in r j) (λ at. at ≤ last_minute)
end_fits r j w = (refl, within (end_in r j) (ends_fit r j w.fit))
  where
    within : (o : Option ℕ) → in_calendar o ≡ true → IfSome o (λ at. at ≤ last_minute)
    within None h = tt
    within (Some at) h = leb-true at last_minute h

pub fits-no_anchor : (c : ℕ) (ls : List Leg) → fits_in (basis_from c ls None) ≡ true
fits-no_anchor c ls = fit_by_ends (basis_from c ls None) (λ j. ap in_calendar (no_end c ls j))

-- where the last leg ends within the calendar, all do
in_order : (c : ℕ) (ls : List Leg) (a : Option Anchor) → c < length ls → in_calendar (eta_in (basis_from c ls a)) ≡ true → (j : ℕ) → in_calendar (end_in (basis_from c ls a) j) ≡ true
in_order c ls None h last j = ap in_calendar (no_end c ls j)
in_order c ls (Some a) h last j =
    let later = drop (c + 1) ls in
    let all = take_all (length ls - 1 + 1 - (c + 1)) later (omega (arith, length-drop (c + 1) ls)) in
    let end = leb-true _ _ (ap in_calendar (sym (end_is c ls a (length ls - 1) (omega arith) (omega arith))) ∙ last) in
    let part = sum_by-take-le (λ (l : Leg). l.minutes) later (j + 1 - (c + 1)) in
    cond_both (leb c j && ltb j (length ls)) (Some (end_by c ls a j)) None (λ o. in_calendar o ≡ true)
    (λ t. le-leb (end_by c ls a j) last_minute (omega (arith, ap (sum_by (λ (l : Leg). l.minutes)) all)))
    (λ t. refl)

pub same_test : (a b : Bool) → (a ≡ true → b ≡ true) → (b ≡ true → a ≡ true) → a ≡ b
same_test true b f g = sym (f refl)
same_test false true f g = g refl
same_test false false f g = refl

-- the last estimate decides
pub fits_by_eta : (r : EstimateBasis) → r.leg_index < length r.legs → fits_in r ≡ in_calendar (eta_in r)
fits_by_eta r h = same_test (fits_in r) (in_calendar (eta_in r)) (ends_fit r (length r.legs - 1)) (λ t. fit_by_ends r (in_order r.leg_index r.legs r.anchor h t))

-- delays of estimates that fit are small
small-delays : (c : ℕ) (ls : List Leg) (a : Option Anchor) → c < length ls → fits_in (basis_from c ls a) ≡ true → delays_of a ≤ last_minute
small-delays c ls None h f = omega arith
small-delays c ls (Some a) h f = let k = end-fits (basis_from c ls (Some a)) c (end_by c ls a c) f (end_is c ls a c (omega arith) h) in omega arith

-- the estimates of a wagon that is on one of its legs
pub is_within : (r : EstimateBasis) → r.leg_index < length r.legs → fits_in r ≡ true → IsWithin r
is_within r h f = record { on_a_leg = h; fit = f; small = small-delays r.leg_index r.legs r.anchor h f }

-- ---- one event more

-- an anchor at the end of the current leg
abbrev pub at_end : ℕ → Anchor
at_end m = record { at = m; runs_leg = false; delays = 0 }

-- on the last leg the only estimate is its moment
pub fits-last : (c : ℕ) (ls : List Leg) (m : ℕ) → c + 1 ≡ length ls → m ≤ last_minute → fits_in (basis_from c ls (Some (at_end m))) ≡ true
fits-last c ls m e h =
    let none_left : length ls - 1 + 1 - (c + 1) ≡ 0 = omega arith in
    let nothing = ap (λ n. sum_by (λ (l : Leg). l.minutes) (take n (drop (c + 1) ls))) none_left in
    let end = end_is c ls (at_end m) (length ls - 1) (omega arith) (omega arith) in
    fits_by_eta (basis_from c ls (Some (at_end m))) (omega arith) ∙ ap in_calendar end ∙ le-leb (end_by c ls (at_end m) (length ls - 1)) last_minute (omega arith)
