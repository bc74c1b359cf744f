-- Digits, and the number that they show.
use Rattle.wagon_number.proofs.Common.{◌≡◌, ℕ, zero, suc, ◌+◌, ◌*◌, ◌/◌, ◌%◌, ◌^◌, ◌<◌, ◌≤◌, List, [], ◌∷◌, ◌++◌, length, take, get_or, All, refl, sym, ◌∙◌, ap, arith, length-append, pow-suc, pow-le-pow_right, take_all, take_more, length-take, length-take-le, All-nil, All-push, All-take, All-get_or, All-weaker, recursion_from_All, number_push, number_lt, last_digits, number_in, digits_of, DigitsGiveTheNumber, NumberGivesTheDigits}

-- there are as many last digits as were asked for
pub length-last_digits : (count n : ℕ) → length (last_digits count n) ≡ count
unfolding last_digits
length-last_digits zero n = refl
length-last_digits (suc count) n = simp length-append (omega (arith, length-last_digits count (n / 10)))

-- each is a digit
pub last_digits-below_ten : (count n : ℕ) → All (λ d. d < 10) (last_digits count n)
unfolding last_digits
last_digits-below_ten zero n = All-nil (λ d. d < 10)
last_digits-below_ten (suc count) n =
    All-push (λ d. d < 10) (last_digits count (n / 10)) (n % 10) (last_digits-below_ten count (n / 10)) (omega arith)

-- they show the number, if it has no more
pub number_in-last_digits : (count n : ℕ) → n < 10 ^ count → number_in (last_digits count n) ≡ n
unfolding last_digits
number_in-last_digits zero n small = omega arith
number_in-last_digits (suc count) n small =
    let front : n / 10 < 10 ^ count = omega (arith, pow-suc 10 count) in
    omega (arith, number_push 10 (last_digits count (n / 10)) (n % 10), number_in-last_digits count (n / 10) front)

-- digits are the last digits of the number that they show
pub last_digits-number_in : (count : ℕ) (ds : List ℕ) → length ds ≡ count → All (λ d. d < 10) ds → last_digits count (number_in ds) ≡ ds
unfolding last_digits
last_digits-number_in zero [] long below = refl
last_digits-number_in zero (d ∷ ds) long below = absurd (omega arith)
last_digits-number_in (suc count) ds long below =
    let front : List ℕ = take count ds in
    let last : ℕ = get_or ds count 0 in
    let split : ds ≡ front ++ last ∷ [] = sym (take_all (count + 1) ds (omega arith)) ∙ take_more ds count 0 (omega arith) in
    let shown : number_in ds ≡ number_in front * 10 + last = ap number_in split ∙ number_push 10 front last in
    let digit : last < 10 = All-get_or (λ d. d < 10) ds count 0 (omega arith) below in
    let ahead : number_in ds / 10 ≡ number_in front = omega (arith, shown, digit) in
    let behind : number_in ds % 10 ≡ last = omega (arith, shown, digit) in
    let here : last_digits count (number_in front) ≡ front =
    last_digits-number_in count front (length-take-le count ds (omega arith)) (All-take (λ d. d < 10) count ds below) in
    rw (ahead, behind, here) (sym split)

-- digits show a number of no more digits
pub number_in-small : (count : ℕ) (ds : List ℕ) → length ds ≡ count → All (λ d. d < 10) ds → number_in ds < 10 ^ count
number_in-small count ds long below = rw (← long) (number_lt 10 ds (recursion_from_All (λ d. d < 10) ds below))

-- the number of the digits in front of a place is small
pub number_in-front : (ds : List ℕ) (place : ℕ) → All (λ d. d ≤ 9) ds → place < 12 → number_in (take place ds) < 10 ^ 11
number_in-front ds place below small =
    let digits : All (λ d. d < 10) (take place ds) = All-take (λ d. d < 10) place ds (All-weaker (λ d. d ≤ 9) (λ d. d < 10) (λ d h. omega arith) ds below) in
    let long : length (take place ds) ≤ 11 = omega (arith, length-take place ds) in
    omega (arith, number_in-small (length (take place ds)) (take place ds) refl digits, pow-le-pow_right {n = 10} (omega arith) long)

pub digits_give_the_number : DigitsGiveTheNumber
digits_give_the_number ds valid =
    let back : digits_of (number_in ds) ≡ ds = last_digits-number_in 12 ds valid.twelve valid.digits in
    (record { small = number_in-small 12 ds valid.twelve valid.digits; valid = rw back valid }, back)

pub number_gives_the_digits : NumberGivesTheDigits
number_gives_the_digits n vehicle = number_in-last_digits 12 n vehicle.small
