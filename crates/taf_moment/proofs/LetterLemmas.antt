-- Letters of a moment's text, and the digits that they show.
use Rattle.taf_moment.proofs.Common.{◌≡◌, ◌≢◌, ℕ, ◌+◌, ◌*◌, ◌/◌, ◌%◌, ◌<◌, true, [], ◌∷◌, ◌++◌, map, refl, ap, ◌∙◌, arith, is_ascii_digit, digit_char, digit_value, digits_value, nat_tests, digit_as_zero, two_digits, four_digits}

-- the letter of a digit shows that digit, and stands for a digit in the form
pub digit_value-digit_char : (d : ℕ) → d < 10 → digit_value (digit_char d) ≡ d
digit_value-digit_char d small = grind (arith, nat_tests)

digit_as_zero-digit_char : (d : ℕ) → d < 10 → digit_as_zero (digit_char d) ≡ 48
digit_as_zero-digit_char d small = grind (arith, nat_tests)

-- a digit of ASCII shows a digit, whose letter it is
pub digit_value-small : (c : ℕ) → is_ascii_digit c ≡ true → digit_value c < 10
digit_value-small c digit = grind (arith, nat_tests)

pub digit_value-is : (c : ℕ) → is_ascii_digit c ≡ true → digit_value c + 48 ≡ c
digit_value-is c digit = grind (arith, nat_tests)

digit_char-digit_value : (c : ℕ) → is_ascii_digit c ≡ true → digit_char (digit_value c) ≡ c
digit_char-digit_value c digit = grind (arith, nat_tests)

-- where the form has a digit, the letter is one, and where it has a mark, it is that mark
pub digit_from_form : (c : ℕ) → digit_as_zero c ≡ 48 → is_ascii_digit c ≡ true
digit_from_form c form = grind (arith, nat_tests)

pub mark_from_form : (c mark : ℕ) → mark ≢ 48 → digit_as_zero c ≡ mark → c ≡ mark
mark_from_form c mark other form = grind (arith, nat_tests)

-- the letters of numbers in two and four digits
pub digits_value-two_digits : (n : ℕ) → n < 100 → digits_value 10 (two_digits n) ≡ n
digits_value-two_digits n small =
    rw (digit_value-digit_char (n / 10) (omega arith), digit_value-digit_char (n % 10) (omega arith)) (omega arith)

pub digits_value-four_digits : (n : ℕ) → n < 10_000 → digits_value 10 (four_digits n) ≡ n
digits_value-four_digits n small =
    rw (digit_value-digit_char (n / 100 / 10) (omega arith), digit_value-digit_char (n / 100 % 10) (omega arith), digit_value-digit_char (n % 100 / 10) (omega arith), digit_value-digit_char (n % 100 % 10) (omega arith)) (omega arith)

-- they have the form
pub form-two_digits : (n : ℕ) → n < 100 → map digit_as_zero (two_digits n) ≡ 48 ∷ 48 ∷ []
form-two_digits n small =
    rw (digit_as_zero-digit_char (n / 10) (omega arith), digit_as_zero-digit_char (n % 10) (omega arith)) refl

pub form-four_digits : (n : ℕ) → n < 10_000 → map digit_as_zero (four_digits n) ≡ 48 ∷ 48 ∷ 48 ∷ 48 ∷ []
form-four_digits n small =
    rw (digit_as_zero-digit_char (n / 100 / 10) (omega arith), digit_as_zero-digit_char (n / 100 % 10) (omega arith), digit_as_zero-digit_char (n % 100 / 10) (omega arith), digit_as_zero-digit_char (n % 100 % 10) (omega arith)) refl

-- digits are the letters of the number that they show
two_letters : (a b n : ℕ) → is_ascii_digit a ≡ true → is_ascii_digit b ≡ true → n ≡ digit_value a * 10 + digit_value b → two_digits n ≡ a ∷ b ∷ []
two_letters a b n first second e =
    let tens : n / 10 ≡ digit_value a = omega (arith, e, digit_value-small b second) in
    let ones : n % 10 ≡ digit_value b = omega (arith, e, digit_value-small b second) in
    rw (tens, ones, digit_char-digit_value a first, digit_char-digit_value b second) refl

pub two_digits-digits_value : (a b : ℕ) → is_ascii_digit a ≡ true → is_ascii_digit b ≡ true → two_digits (digits_value 10 (a ∷ b ∷ [])) ≡ a ∷ b ∷ []
two_digits-digits_value a b first second = two_letters a b (digits_value 10 (a ∷ b ∷ [])) first second (omega arith)

four_letters : (a b c d n : ℕ) → is_ascii_digit a ≡ true → is_ascii_digit b ≡ true → is_ascii_digit c ≡ true → is_ascii_digit d ≡ true
    → n ≡ ((digit_value a * 10 + digit_value b) * 10 + digit_value c) * 10 + digit_value d → four_digits n ≡ a ∷ b ∷ c ∷ d ∷ []
four_letters a b c d n first second third fourth e =
    let front : n / 100 ≡ digit_value a * 10 + digit_value b = omega (arith, e, digit_value-small c third, digit_value-small d fourth) in
    let back : n % 100 ≡ digit_value c * 10 + digit_value d = omega (arith, e, digit_value-small c third, digit_value-small d fourth) in
    ap (λ l. l ++ two_digits (n % 100)) (two_letters a b (n / 100) first second front) ∙ ap (λ l. a ∷ b ∷ l) (two_letters c d (n % 100) third fourth back)

pub four_digits-digits_value : (a b c d : ℕ) → is_ascii_digit a ≡ true → is_ascii_digit b ≡ true → is_ascii_digit c ≡ true → is_ascii_digit d ≡ true
    → four_digits (digits_value 10 (a ∷ b ∷ c ∷ d ∷ [])) ≡ a ∷ b ∷ c ∷ d ∷ []
four_digits-digits_value a b c d first second third fourth =
    four_letters a b c d (digits_value 10 (a ∷ b ∷ c ∷ d ∷ [])) first second third fourth (omega arith)
