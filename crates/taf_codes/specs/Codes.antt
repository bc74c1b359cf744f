-- The texts that are codes, and what reading a text gives.
-- Railways and places have codes in central files (Regulation (EU) No 1305/2014, Annex, 4.2.11). The files are not
-- read here: every text of a code's form is a code.
use Rattle.std.specs.Prelude.{◌≡◌, ℕ, ◌==◌, ◌&&◌, ◌||◌, Bool, true, List, length, take, drop, nat_lt, nat_le, Result, Ok, Err, if◌then◌else◌}
use Rattle.std.specs.Char.{is_ascii_digit, is_ascii_uppercase}
use Rattle.std.specs.List.{list_all}
use Rattle.taf_codes.specs.UnitDigits.{ends_in_check_digit}
use Rattle.taf_codes.specs.declared.fault.BadCode.{BadCode}
use Rattle.taf_codes.specs.declared.fault.UnitFault.{UnitFault}
use Rattle.taf_codes.specs.declared.fault.UnitFault.TheVariants.{NotAUnitCode, BadUnitDigit}

-- each is a capital letter or a digit
abbrev pub are_code_letters : List ℕ → Bool
are_code_letters = list_all (λ letter. is_ascii_uppercase letter || is_ascii_digit letter)

-- each is a capital letter, a digit or a hyphen (45)
abbrev pub are_name_letters : List ℕ → Bool
are_name_letters = list_all (λ letter. is_ascii_uppercase letter || is_ascii_digit letter || (letter == 45))

-- the first ones are so many capital letters, and the others are digits
abbrev pub are_letters_then_digits : ℕ → List ℕ → Bool
are_letters_then_digits letters text = list_all is_ascii_uppercase (take letters text) && list_all is_ascii_digit (drop letters text)

-- the code of a railway or of an infrastructure manager: four capital letters and digits
abbrev pub is_railway : List ℕ → Bool
is_railway text = (length text == 4) && are_code_letters text

-- the code of a place: two capital letters for its country and five digits
abbrev pub is_place : List ℕ → Bool
is_place text = (length text == 7) && are_letters_then_digits 2 text

-- the name of a consignment or of a train: 1 to 20 capital letters, digits and hyphens
abbrev pub is_name : List ℕ → Bool
is_name text = nat_lt 0 (length text) && nat_le (length text) 20 && are_name_letters text

-- four capital letters and seven digits
abbrev pub has_unit_form : List ℕ → Bool
has_unit_form text = (length text == 11) && are_letters_then_digits 4 text

-- the code of an intermodal unit (ISO 6346): the last digit is the check digit
abbrev pub is_unit_code : List ℕ → Bool
is_unit_code text = has_unit_form text && ends_in_check_digit text

-- the text where it passes the test
abbrev pub code_of : (List ℕ → Bool) → List ℕ → Result (List ℕ) BadCode
code_of is_code text = if is_code text then Ok text else Err (record {})

-- the railway whose code the text is
abbrev pub railway_of : List ℕ → Result (List ℕ) BadCode
railway_of = code_of is_railway

-- the place whose code the text is
abbrev pub place_code_of : List ℕ → Result (List ℕ) BadCode
place_code_of = code_of is_place

-- the consignment whose name the text is
abbrev pub consignment_of : List ℕ → Result (List ℕ) BadCode
consignment_of = code_of is_name

-- the train whose name the text is
abbrev pub train_of : List ℕ → Result (List ℕ) BadCode
train_of = code_of is_name

-- the unit whose code the text is, and else whether its form or its last digit is wrong
abbrev pub unit_of : List ℕ → Result (List ℕ) UnitFault
unit_of text =
    if is_unit_code text then Ok text
    else if has_unit_form text then Err BadUnitDigit
    else Err NotAUnitCode

-- a text that passes the test reads as itself
abbrev pub ReadsBack : {Fault : Type 0} → (List ℕ → Bool) → (List ℕ → Result (List ℕ) Fault) → Type 0
ReadsBack is_code read = (text : List ℕ) → is_code text ≡ true → read text ≡ Ok text
