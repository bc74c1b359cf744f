-- How numbers, digits and texts go together.
use Rattle.std.specs.Prelude.{◌≡◌, ◌↔◌, ℕ, List, Ok, IsTrue}
use Rattle.wagon_number.specs.Digits.{IsValid, is_valid, IsVehicleNumber, digits_of, number_in, shown_digits, number_of, text_of, marked_number_of, marked_text}

-- the test says whether digits are valid
abbrev pub ValidityIsTested : Type 0
ValidityIsTested = (ds : List ℕ) → IsTrue (is_valid ds) ↔ IsValid ds

-- valid digits are the digits of the number that they show
abbrev pub DigitsGiveTheNumber : Type 0
DigitsGiveTheNumber = (ds : List ℕ) → IsValid ds → IsVehicleNumber (number_in ds) × (digits_of (number_in ds) ≡ ds)

-- a vehicle number is the number that its digits show
abbrev pub NumberGivesTheDigits : Type 0
NumberGivesTheDigits = (n : ℕ) → IsVehicleNumber n → number_in (digits_of n) ≡ n

-- what `text` writes, `read` reads
abbrev pub TextIsRead : Type 0
TextIsRead = (n : ℕ) → IsVehicleNumber n → number_of (text_of n) ≡ Ok n

-- a text that is read as a number is that number's text, and shows its digits
abbrev pub ReadingIsExact : Type 0
ReadingIsExact = (text : List ℕ) (n : ℕ) → number_of text ≡ Ok n → IsVehicleNumber n × (text ≡ text_of n) × (shown_digits text ≡ digits_of n)

-- what `Display` prints, `read_marked` reads
abbrev pub MarkedTextIsRead : Type 0
MarkedTextIsRead = (n : ℕ) → IsVehicleNumber n → marked_number_of (marked_text n) ≡ Ok n

-- a text that is read as a number in the marked form is that number's marked form
abbrev pub MarkedReadingIsExact : Type 0
MarkedReadingIsExact = (text : List ℕ) (n : ℕ) → marked_number_of text ≡ Ok n → IsVehicleNumber n × (text ≡ marked_text n)
