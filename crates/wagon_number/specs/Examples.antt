-- Worked examples: what some texts are read as, and what some numbers are written as.
use Rattle.std.specs.Prelude.{◌≡◌, [], ◌∷◌, codes, Ok, Err, true, refl}
use Rattle.wagon_number.specs.declared.fault.NumberFault.TheVariants.{NotTwelveDigits, BadCheckDigit}
use Rattle.wagon_number.specs.Digits.{last_digits, digits_of, products, check_digit_of, is_valid, number_of, text_of, marked_number_of, marked_text}

pub eleven_products : products (2 ∷ 1 ∷ 8 ∷ 1 ∷ 2 ∷ 4 ∷ 7 ∷ 1 ∷ 2 ∷ 1 ∷ 7 ∷ []) ≡ 4 ∷ 1 ∷ 16 ∷ 1 ∷ 4 ∷ 4 ∷ 14 ∷ 1 ∷ 4 ∷ 1 ∷ 14 ∷ []
eleven_products = refl

-- their digits have the sum 37
pub check_digit : check_digit_of (2 ∷ 1 ∷ 8 ∷ 1 ∷ 2 ∷ 4 ∷ 7 ∷ 1 ∷ 2 ∷ 1 ∷ 7 ∷ []) ≡ 3
check_digit = refl

pub digits : digits_of 218124712173 ≡ 2 ∷ 1 ∷ 8 ∷ 1 ∷ 2 ∷ 4 ∷ 7 ∷ 1 ∷ 2 ∷ 1 ∷ 7 ∷ 3 ∷ []
unfolding last_digits
digits = refl

pub valid : is_valid (2 ∷ 1 ∷ 8 ∷ 1 ∷ 2 ∷ 4 ∷ 7 ∷ 1 ∷ 2 ∷ 1 ∷ 7 ∷ 3 ∷ []) ≡ true
valid = refl

pub twelve_digits : number_of (codes "218124712173") ≡ Ok 218124712173
twelve_digits = refl

pub wrong_digit : number_of (codes "218124712174") ≡ Err BadCheckDigit
wrong_digit = refl

pub eleven_digits : number_of (codes "21812471217") ≡ Err NotTwelveDigits
eleven_digits = refl

pub with_marks : marked_number_of (codes "21 81 2471 217-3") ≡ Ok 218124712173
with_marks = refl

pub marks_elsewhere : marked_number_of (codes "218 1 2471 217-3") ≡ Err NotTwelveDigits
marks_elsewhere = refl

pub text : text_of 318066552148 ≡ codes "318066552148"
unfolding last_digits
text = refl

pub marked_form : marked_text 318066552148 ≡ codes "31 80 6655 214-8"
unfolding last_digits
marked_form = refl

pub zeros : marked_text 0 ≡ codes "00 00 0000 000-0"
unfolding last_digits
zeros = refl
