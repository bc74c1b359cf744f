-- The table of the digits of numbers below a hundred.
use Rattle.taf_moment.proofs.Common.{◌≡◌, ℕ, ◌+◌, ◌*◌, ◌/◌, ◌%◌, ◌<◌, Bool, true, [], ◌∷◌, get_or, refl, arith, ◌==◌, ◌&&◌, digit_char, IsAscii, and_parts, eqb-true, agree_below_at, nat_tests, IsAscii-nil, IsAscii-cons, PAIRS, two_digits}

-- the table has the digits of a number at twice its place
abbrev has_digits_at : ℕ → Bool
has_digits_at n = (get_or PAIRS (2 * n) 0 == digit_char (n / 10)) && (get_or PAIRS (2 * n + 1) 0 == digit_char (n % 10))

pub letters_at : (n : ℕ) → n < 100 → (get_or PAIRS (2 * n) 0 ≡ digit_char (n / 10)) × (get_or PAIRS (2 * n + 1) 0 ≡ digit_char (n % 10))
letters_at n small =
    let parts = and_parts (get_or PAIRS (2 * n) 0 == digit_char (n / 10)) (get_or PAIRS (2 * n + 1) 0 == digit_char (n % 10)) (agree_below_at has_digits_at (λ _. true) 100 n refl small) in
    (eqb-true _ _ parts.0, eqb-true _ _ parts.1)

-- they are ASCII
digit_char-small : (d : ℕ) → d < 10 → digit_char d < 128
digit_char-small d small = grind (arith, nat_tests)

pub IsAscii-two_digits : (n : ℕ) → n < 100 → IsAscii (two_digits n)
IsAscii-two_digits n small =
    let ones = IsAscii-cons (digit_char (n % 10)) [] (digit_char-small (n % 10) (omega arith)) IsAscii-nil in
    IsAscii-cons (digit_char (n / 10)) (digit_char (n % 10) ∷ []) (digit_char-small (n / 10) (omega arith)) ones
