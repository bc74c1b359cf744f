-- Letters, and the digits that they show.
use Rattle.wagon_number.proofs.Common.{◌≡◌, ℕ, ◌<◌, Bool, true, false, List, [], ◌∷◌, length, map, All, Result, Ok, Err, refl, sym, ◌∙◌, ap, arith, eq-eqb, if◌then◌else◌, ◌==◌, digit_value, digit_char, is_ascii_digit, list_all, cond-true, and_parts, and_from, eqb-true, nat_tests, length-map, IsAscii, IsAscii-nil, IsAscii-cons, All-nil, All-cons, All-head, All-tail, NumberFault, NotTwelveDigits, BadCheckDigit, IsValid, digits_of, number_in, has_check_digit, has_twelve_digits, shown_digits, text_of, TextIsRead, ReadingIsExact}
use Rattle.wagon_number.proofs.DigitLemmas.{length-last_digits, digits_give_the_number, number_gives_the_digits}

-- the letter of a digit is a digit of ASCII, and shows it
digit_char-is_ascii_digit : (d : ℕ) → d < 10 → is_ascii_digit (digit_char d) ≡ true
digit_char-is_ascii_digit d small = grind (arith, nat_tests)

digit_value-digit_char : (d : ℕ) → d < 10 → digit_value (digit_char d) ≡ d
digit_value-digit_char d small = grind (arith, nat_tests)

-- a digit of ASCII shows a digit, whose letter it is
digit_value-small : (c : ℕ) → is_ascii_digit c ≡ true → digit_value c < 10
digit_value-small c digit = grind (arith, nat_tests)

digit_char-digit_value : (c : ℕ) → is_ascii_digit c ≡ true → digit_char (digit_value c) ≡ c
digit_char-digit_value c digit = grind (arith, nat_tests)

digit_char-small : (d : ℕ) → d < 10 → digit_char d < 128
digit_char-small d small = grind (arith, nat_tests)

-- a choice that is Ok took its first side
pub ok_from_if : (b : Bool) (r : Result ℕ NumberFault) (fault : NumberFault) (n : ℕ) → (if b then r else Err fault) ≡ Ok n → (b ≡ true) × (r ≡ Ok n)
ok_from_if true r fault n h = (refl, h)
ok_from_if false r fault n h = absurd cc

-- the letters of digits show those digits
pub shown_digits-letters : (ds : List ℕ) → All (λ d. d < 10) ds → shown_digits (map digit_char ds) ≡ ds
shown_digits-letters [] below = refl
shown_digits-letters (d ∷ ds) below =
    let here = digit_value-digit_char d (All-head (λ d. d < 10) d ds below) in
    let rest = shown_digits-letters ds (All-tail (λ d. d < 10) d ds below) in
    cc

-- and are digits of ASCII
pub letters-are_digits : (ds : List ℕ) → All (λ d. d < 10) ds → list_all is_ascii_digit (map digit_char ds) ≡ true
letters-are_digits [] below = refl
letters-are_digits (d ∷ ds) below =
    and_from (is_ascii_digit (digit_char d)) (list_all is_ascii_digit (map digit_char ds))
    (digit_char-is_ascii_digit d (All-head (λ d. d < 10) d ds below))
    (letters-are_digits ds (All-tail (λ d. d < 10) d ds below))

-- letters that are digits of ASCII are those of the digits that they show
pub letters-shown_digits : (text : List ℕ) → list_all is_ascii_digit text ≡ true → map digit_char (shown_digits text) ≡ text
letters-shown_digits [] digits = refl
letters-shown_digits (c ∷ text) digits =
    let parts = and_parts (is_ascii_digit c) (list_all is_ascii_digit text) digits in
    let here = digit_char-digit_value c parts.0 in
    let rest = letters-shown_digits text parts.1 in
    cc

-- and these are below ten
pub shown_digits-below_ten : (text : List ℕ) → list_all is_ascii_digit text ≡ true → All (λ d. d < 10) (shown_digits text)
shown_digits-below_ten [] digits = All-nil (λ d. d < 10)
shown_digits-below_ten (c ∷ text) digits =
    let parts = and_parts (is_ascii_digit c) (list_all is_ascii_digit text) digits in
    All-cons (λ d. d < 10) (digit_value c) (shown_digits text) (digit_value-small c parts.0) (shown_digits-below_ten text parts.1)

-- the letters of digits are ASCII
pub IsAscii-letters : (ds : List ℕ) → All (λ d. d < 10) ds → IsAscii (map digit_char ds)
IsAscii-letters [] below = IsAscii-nil
IsAscii-letters (d ∷ ds) below =
    IsAscii-cons (digit_char d) (map digit_char ds) (digit_char-small d (All-head (λ d. d < 10) d ds below)) (IsAscii-letters ds (All-tail (λ d. d < 10) d ds below))

-- a number's text has twelve letters
pub length-text_of : (n : ℕ) → length (text_of n) ≡ 12
length-text_of n = length-map (digits_of n) digit_char ∙ length-last_digits 12 n

pub text_is_read : TextIsRead
text_is_read n vehicle =
    let ds : List ℕ = digits_of n in
    let shown : shown_digits (text_of n) ≡ ds = shown_digits-letters ds vehicle.valid.digits in
    let twelve : has_twelve_digits (text_of n) ≡ true =
    and_from _ _ (eq-eqb _ _ (length-text_of n)) (letters-are_digits ds vehicle.valid.digits) in
    let check : has_check_digit (shown_digits (text_of n)) ≡ true = rw shown (eq-eqb _ _ vehicle.valid.last) in
    cond-true _ _ _ twelve ∙ cond-true _ _ _ check ∙ ap Ok (ap number_in shown ∙ number_gives_the_digits n vehicle)

pub reading_is_exact : ReadingIsExact
reading_is_exact text n h =
    let ds : List ℕ = shown_digits text in
    let outer = ok_from_if (has_twelve_digits text) _ NotTwelveDigits n h in
    let inner = ok_from_if (has_check_digit ds) (Ok (number_in ds)) BadCheckDigit n outer.1 in
    let parts = and_parts (length text == 12) (list_all is_ascii_digit text) outer.0 in
    let valid : IsValid ds = record {
      twelve = length-map text digit_value ∙ eqb-true _ _ parts.0;
      digits = shown_digits-below_ten text parts.1;
      last = eqb-true _ _ inner.0;
    } in
    let number : number_in ds ≡ n = let e = inner.1 in cc in
    let is = rw number at (digits_give_the_number ds valid) in
    (is.0, sym (ap (map digit_char) is.1 ∙ letters-shown_digits text parts.1), sym is.1)
