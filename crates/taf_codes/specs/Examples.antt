-- Worked codes.
use Rattle.std.specs.Prelude.{◌≡◌, ℕ, ◌%◌, nat_lt, true, false, [], ◌∷◌, map, filter, Some, None, Ok, Err, codes, refl}
use Rattle.std.specs.List.{range_with_len}
use Rattle.taf_codes.specs.Codes.{is_name, is_place, is_railway, is_unit_code, railway_of, unit_of}
use Rattle.taf_codes.specs.UnitDigits.{letter_value, value_of, weighed_sum, check_digit}
use Rattle.taf_codes.specs.Words.{first_of, is_text}
use Rattle.taf_codes.specs.declared.fault.UnitFault.TheVariants.{NotAUnitCode, BadUnitDigit}

-- letters have the numbers from 10 on that 11 does not divide
some_values : map value_of (codes "ABKLUVZ") ≡ 10 ∷ 12 ∷ 21 ∷ 23 ∷ 32 ∷ 34 ∷ 38 ∷ []
some_values = refl

all_values : map letter_value (range_with_len 0 26) ≡ filter (λ value. nat_lt 0 (value % 11)) (range_with_len 10 29)
all_values = refl

a_sum : weighed_sum (codes "CSQU305438") ≡ 6185
a_sum = refl

a_digit : check_digit (codes "CSQU305438") ≡ 3
a_digit = refl

a_sum_with_ten : weighed_sum (codes "AAAU000006") ≡ 3398
a_sum_with_ten = refl

ten_as_zero : check_digit (codes "AAAU000006") ≡ 0
ten_as_zero = refl

a_code : is_unit_code (codes "CSQU3054383") ≡ true
a_code = refl

another_code : is_unit_code (codes "AAAU0000060") ≡ true
another_code = refl

a_wrong_digit : unit_of (codes "CSQU3054384") ≡ Err BadUnitDigit
a_wrong_digit = refl

three_letters : unit_of (codes "CSQ3054383") ≡ Err NotAUnitCode
three_letters = refl

a_railway : railway_of (codes "R101") ≡ Ok (codes "R101")
a_railway = refl

a_small_letter : is_railway (codes "r101") ≡ false
a_small_letter = refl

a_hyphen : is_railway (codes "R-10") ≡ false
a_hyphen = refl

a_place : is_place (codes "IT00003") ≡ true
a_place = refl

a_letter_among_the_digits : is_place (codes "IT0000A") ≡ false
a_letter_among_the_digits = refl

a_name : is_name (codes "TRAIN-7") ≡ true
a_name = refl

twenty : is_name (codes "A2345678901234567890") ≡ true
twenty = refl

twenty_one : is_name (codes "A23456789012345678901") ≡ false
twenty_one = refl

no_name : is_name [] ≡ false
no_name = refl

a_first : first_of {A = ℕ} ((false, 1) ∷ (true, 2) ∷ (true, 3) ∷ []) ≡ Some 2
a_first = refl

a_text : is_text (Some (codes "R101")) (codes "R101") ≡ true
a_text = refl

no_text : is_text None (codes "R101") ≡ false
no_text = refl
