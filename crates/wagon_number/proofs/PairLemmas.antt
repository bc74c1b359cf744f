-- Digits two at a time, and the table of their letters.
use Rattle.wagon_number.proofs.Common.{◌≡◌, ℕ, ◌+◌, ◌*◌, ◌/◌, ◌%◌, ◌<◌, Bool, true, suc, ◌++◌, get_or, refl, ap, ◌∙◌, arith, append_assoc, ◌==◌, ◌&&◌, digit_char, and_parts, eqb-true, agree_below_at, PAIRS, last_digits}

-- the table has the letters of a number at twice its place
abbrev has_letters : ℕ → Bool
has_letters n = (get_or PAIRS (2 * n) 0 == digit_char (n / 10 % 10)) && (get_or PAIRS (2 * n + 1) 0 == digit_char (n % 10))

pub letters_at : (n : ℕ) → n < 100 → (get_or PAIRS (2 * n) 0 ≡ digit_char (n / 10 % 10)) × (get_or PAIRS (2 * n + 1) 0 ≡ digit_char (n % 10))
letters_at n small =
    let parts = and_parts (get_or PAIRS (2 * n) 0 == digit_char (n / 10 % 10)) (get_or PAIRS (2 * n + 1) 0 == digit_char (n % 10)) (agree_below_at has_letters (λ _. true) 100 n refl small) in
    (eqb-true _ _ parts.0, eqb-true _ _ parts.1)

-- the last two digits are those of the rest by a hundred
pub last_digits-pair : (count n : ℕ) → last_digits (suc (suc count)) n ≡ last_digits count (n / 100) ++ last_digits 2 (n % 100)
unfolding last_digits
last_digits-pair count n =
    let front : n / 10 / 10 ≡ n / 100 = omega arith in
    let tens : n / 10 % 10 ≡ n % 100 / 10 % 10 = omega arith in
    let ones : n % 10 ≡ n % 100 % 10 = omega arith in
    rw (append_assoc, front, tens, ← ones) refl

-- three pairs
pub last_digits-six : (n : ℕ) → last_digits 6 n ≡ last_digits 2 (n / 10_000) ++ last_digits 2 (n / 100 % 100) ++ last_digits 2 (n % 100)
last_digits-six n =
    let front : n / 100 / 100 ≡ n / 10_000 = omega arith in
    last_digits-pair 4 n ∙ ap (λ l. l ++ last_digits 2 (n % 100)) (last_digits-pair 2 (n / 100) ∙ ap (λ m. last_digits 2 m ++ last_digits 2 (n / 100 % 100)) front)

-- three pairs behind six digits
pub last_digits-twelve : (n : ℕ) → last_digits 12 n ≡ last_digits 6 (n / 1_000_000) ++ last_digits 6 (n % 1_000_000)
last_digits-twelve n =
    let front : n / 100 / 100 / 100 ≡ n / 1_000_000 = omega arith in
    let first : n / 100 / 100 % 100 ≡ n % 1_000_000 / 10_000 = omega arith in
    let second : n / 100 % 100 ≡ n % 1_000_000 / 100 % 100 = omega arith in
    let third : n % 100 ≡ n % 1_000_000 % 100 = omega arith in
    rw (last_digits-pair 10 n, last_digits-pair 8 (n / 100), last_digits-pair 6 (n / 100 / 100), last_digits-six (n % 1_000_000), front, first, second, third) (simp append_assoc)
