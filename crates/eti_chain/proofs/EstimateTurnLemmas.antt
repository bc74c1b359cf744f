-- The end of a leg goes on from the end of the leg before.
use Rattle.eti_chain.proofs.Common.{sum_by_more, ◌≡◌, ℕ, ◌+◌, ◌-◌, ◌≤◌, ◌<◌, leb, ltb, List, length, get_or, take, drop, Option, Some, None, refl, ap, ◌∙◌, sym, arith, ◌&&◌, sum_by, get_or-drop, length-drop, option_map, IfSome, and_from, le-leb, lt-ltb, cond-true, last_minute, Leg, EstimateBasis, base_in, delays_of, end_in, eta_in, end_before, IsWithin}
use Rattle.eti_chain.proofs.CalendarLemmas.{end-fits}

abbrev minutes_of : List Leg → ℕ
minutes_of ls = sum_by (λ l. l.minutes) ls

goes_on : (base : Option ℕ) (delays so_far more minutes : ℕ) → more ≡ so_far + minutes →
    option_map (λ at. at + delays + more) base ≡ option_map (λ m. m + minutes) (option_map (λ at. at + delays + so_far) base)
goes_on None delays so_far more minutes e = refl
goes_on (Some at) delays so_far more minutes e =
    let sum : at + delays + more ≡ at + delays + so_far + minutes = omega arith in
    ap (λ (n : ℕ). Some n) sum

-- the minutes of a leg after the current one come on top of the end before it
pub end_later : (r : EstimateBasis) (j : ℕ) (l : Leg) → r.leg_index < j → j < length r.legs →
    end_in r j ≡ option_map (λ m. m + (get_or r.legs j l).minutes) (end_before r j)
end_later r j l low high =
    let c = r.leg_index in
    let n = j - (c + 1) in
    let later = drop (c + 1) r.legs in
    let sum : minutes_of (take (n + 1) later) ≡ minutes_of (take n later) + (get_or later n l).minutes =
    sum_by_more (λ x. x.minutes) later n l (omega (arith, length-drop (c + 1) r.legs)) in
    let count : j + 1 - (c + 1) ≡ n + 1 = omega arith in
    let place : c + 1 + n ≡ j = omega arith in
    let leg : get_or later n l ≡ get_or r.legs j l = get_or-drop (c + 1) r.legs n l ∙ ap (λ i. get_or r.legs i l) place in
    let more : minutes_of (take (j + 1 - (c + 1)) later) ≡ minutes_of (take n later) + (get_or r.legs j l).minutes =
    ap (λ i. minutes_of (take i later)) count ∙ sum ∙ ap (λ (x : Leg). minutes_of (take n later) + x.minutes) leg in
    cond-true (leb c j && ltb j (length r.legs)) (end_before r (j + 1)) None (and_from (leb c j) (ltb j (length r.legs)) (le-leb c j (omega arith)) (lt-ltb j (length r.legs) high)) ∙
    goes_on (base_in r) (delays_of r.anchor) (minutes_of (take n later)) (minutes_of (take (j + 1 - (c + 1)) later)) (get_or r.legs j l).minutes more

-- once each leg had its turn, that is the end of the last one
pub end_of_all : (r : EstimateBasis) → r.leg_index < length r.legs → end_before r (length r.legs) ≡ eta_in r
end_of_all r on =
    let n = length r.legs in
    let last : n - 1 + 1 ≡ n = omega arith in
    sym (
    cond-true (leb r.leg_index (n - 1) && ltb (n - 1) n) (end_before r (n - 1 + 1)) None (and_from (leb r.leg_index (n - 1)) (ltb (n - 1) n) (le-leb r.leg_index (n - 1) (omega arith)) (lt-ltb (n - 1) n (omega arith))) ∙
    ap (end_before r) last)

-- and stay within the calendar
pub later_fits : (r : EstimateBasis) (j : ℕ) (l : Leg) (at : Option ℕ) → IsWithin r → r.leg_index < j → j < length r.legs → at ≡ end_before r j →
    IfSome at (λ m. m + (get_or r.legs j l).minutes ≤ last_minute)
later_fits r j l None within low high e = tt
later_fits r j l (Some m) within low high e =
    let minutes = (get_or r.legs j l).minutes in
    end-fits r j (m + minutes) within.fit (end_later r j l low high ∙ ap (option_map (λ n. n + minutes)) (sym e))
