-- The sum behind the check digit.
use Rattle.wagon_number.proofs.Common.{◌≡◌, ℕ, ◌+◌, ◌*◌, ◌<◌, ◌≤◌, Bool, true, List, [], ◌∷◌, length, get_or, All, refl, ◌∙◌, ap, arith, sum_by, ◌==◌, eqb-true, agree_below_at, All-get_or, fill_by_all, DOUBLED, products, digit_sum}

-- the table has the sum of the digits of a digit's double
abbrev has_sum : ℕ → Bool
has_sum d = get_or DOUBLED d 0 == digit_sum (2 * d)

pub doubled_at : (d : ℕ) → d ≤ 9 → get_or DOUBLED d 0 ≡ digit_sum (2 * d)
doubled_at d small = eqb-true _ _ (agree_below_at has_sum (λ _. true) 10 d refl (omega (arith, small)))

-- a digit is the sum of its digits
digit_sum-digit : (d : ℕ) → d ≤ 9 → digit_sum (1 * d) ≡ d
digit_sum-digit d small = omega (arith, small)

-- eleven digits, one by one
eleven_are : (ds : List ℕ) → length ds ≡ 11 → ds ≡ get_or ds 0 0 ∷ get_or ds 1 0 ∷ get_or ds 2 0 ∷ get_or ds 3 0 ∷ get_or ds 4 0 ∷ get_or ds 5 0 ∷ get_or ds 6 0 ∷ get_or ds 7 0 ∷ get_or ds 8 0 ∷ get_or ds 9 0 ∷ get_or ds 10 0 ∷ []
eleven_are ds long = fill_by_all (λ k. get_or ds k 0) ds 11 0 long (λ k h. refl)

-- the sum of the digits of the products: every other digit counts by its double
pub sum_of_products : (ds : List ℕ) → length ds ≡ 11 → All (λ d. d ≤ 9) ds
    → sum_by digit_sum (products ds) ≡ digit_sum (2 * get_or ds 0 0) + get_or ds 1 0 + digit_sum (2 * get_or ds 2 0) + get_or ds 3 0 + digit_sum (2 * get_or ds 4 0) + get_or ds 5 0 + digit_sum (2 * get_or ds 6 0) + get_or ds 7 0 + digit_sum (2 * get_or ds 8 0) + get_or ds 9 0 + digit_sum (2 * get_or ds 10 0)
sum_of_products ds long below =
    let same : (k : ℕ) → k < 11 → digit_sum (1 * get_or ds k 0) ≡ get_or ds k 0 =
    λ k small. digit_sum-digit (get_or ds k 0) (All-get_or (λ d. d ≤ 9) ds k 0 (omega (arith, long, small)) below) in
    ap (λ l. sum_by digit_sum (products l)) (eleven_are ds long)
    ∙ rw (same 1 (omega arith), same 3 (omega arith), same 5 (omega arith), same 7 (omega arith), same 9 (omega arith)) (omega arith)
