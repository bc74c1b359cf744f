-- Vehicle numbers, their digits, and the texts that show them. The digits and the check digit are those of the
-- European vehicle number (Decision 2007/756/EC, Appendix 6), whose check digit goes by the Luhn rule.
use Rattle.std.specs.Prelude.{◌≡◌, ℕ, zero, suc, ◌+◌, ◌-◌, ◌*◌, ◌/◌, ◌%◌, ◌^◌, ◌<◌, ◌==◌, ◌&&◌, nat_lt, Bool, List, [], ◌∷◌, ◌++◌, length, take, drop, map, sum_by, slice_index, slice_range, All, codes, Result, Ok, Err, if◌then◌else◌}
use Rattle.std.specs.Char.{digit_value, digit_char, is_ascii_digit}
use Rattle.std.specs.Int.Digits.{number_from_digits}
use Rattle.std.specs.List.{list_all, zip}
use Rattle.wagon_number.specs.declared.fault.NumberFault.{NumberFault}
use Rattle.wagon_number.specs.declared.fault.NumberFault.TheVariants.{NotTwelveDigits, BadCheckDigit}

-- ---- digits

-- the last so many decimal digits of a number, the first first
unfoldable pub last_digits : ℕ → ℕ → List ℕ
last_digits zero n = []
last_digits (suc count) n = last_digits count (n / 10) ++ (n % 10 ∷ [])

-- the twelve digits of a number, the first first
abbrev pub digits_of : ℕ → List ℕ
digits_of n = last_digits 12 n

-- the number that digits show
abbrev pub number_in : List ℕ → ℕ
number_in ds = number_from_digits 10 ds

-- ---- the check digit

-- what the first eleven digits are multiplied by: 2 and 1 in turn
abbrev pub factors : List ℕ
factors = 2 ∷ 1 ∷ 2 ∷ 1 ∷ 2 ∷ 1 ∷ 2 ∷ 1 ∷ 2 ∷ 1 ∷ 2 ∷ []

-- each digit times its factor
abbrev pub products : List ℕ → List ℕ
products ds = map (λ (factor, digit). factor * digit) (zip factors ds)

-- the sum of the decimal digits of a number below 100
abbrev pub digit_sum : ℕ → ℕ
digit_sum n = n / 10 + n % 10

-- what the digits of the products lack to a multiple of ten: the digit that goes behind eleven digits
abbrev pub check_digit_of : List ℕ → ℕ
check_digit_of ds = (10 - sum_by digit_sum (products ds) % 10) % 10

-- twelve digits, of which the last is the check digit of the first eleven
pub record IsValid (ds : List ℕ) : Type 0 where
  pub twelve : length ds ≡ 12
  pub digits : All (λ d. d < 10) ds
  pub last : slice_index ds 11 ≡ check_digit_of (take 11 ds)

-- whether the twelfth digit is the check digit of the first eleven
abbrev pub has_check_digit : List ℕ → Bool
has_check_digit ds = slice_index ds 11 == check_digit_of (take 11 ds)

-- whether digits are valid, as a test that computes
abbrev pub is_valid : List ℕ → Bool
is_valid ds = (length ds == 12) && list_all (λ d. nat_lt d 10) ds && has_check_digit ds

-- a number of at most twelve digits that are valid
pub record IsVehicleNumber (n : ℕ) : Type 0 where
  pub small : n < 10 ^ 12
  pub valid : IsValid (digits_of n)

-- ---- texts of twelve digits

-- whether a text has twelve letters, each from `0` to `9`
abbrev pub has_twelve_digits : List ℕ → Bool
has_twelve_digits text = (length text == 12) && list_all is_ascii_digit text

-- the digits that letters show
abbrev pub shown_digits : List ℕ → List ℕ
shown_digits text = map digit_value text

-- what a text of twelve digits is read as
abbrev pub number_of : List ℕ → Result ℕ NumberFault
number_of text =
    if has_twelve_digits text
    then (if has_check_digit (shown_digits text) then Ok (number_in (shown_digits text)) else Err BadCheckDigit)
    else Err NotTwelveDigits

-- the twelve letters of a number
abbrev pub text_of : ℕ → List ℕ
text_of n = map digit_char (digits_of n)

-- ---- the marked form, as `21 81 2471 217-3`

-- twelve letters with a blank behind the second, the fourth and the eighth, and a hyphen before the last
abbrev pub with_marks : List ℕ → List ℕ
with_marks ls =
    take 2 ls ++ codes " " ++ slice_range ls 2 4 ++ codes " " ++ slice_range ls 4 8 ++ codes " " ++ slice_range ls 8 11
    ++ codes "-" ++ drop 11 ls

-- the marked form of a number
abbrev pub marked_text : ℕ → List ℕ
marked_text n = with_marks (text_of n)

-- whether a text has sixteen letters, with the blanks (32) and the hyphen (45) at their places
abbrev pub has_marks : List ℕ → Bool
has_marks text =
    (length text == 16) && (slice_index text 2 == 32) && (slice_index text 5 == 32) && (slice_index text 10 == 32)
    && (slice_index text 14 == 45)

-- sixteen letters without those at the marks' places
abbrev pub without_marks : List ℕ → List ℕ
without_marks text = take 2 text ++ slice_range text 3 5 ++ slice_range text 6 10 ++ slice_range text 11 14 ++ drop 15 text

-- what a text in the marked form is read as
abbrev pub marked_number_of : List ℕ → Result ℕ NumberFault
marked_number_of text = if has_marks text then number_of (without_marks text) else Err NotTwelveDigits
