-- The check digit of an intermodal unit's code by ISO 6346.
use Rattle.std.specs.Prelude.{ℕ, ◌+◌, ◌-◌, ◌*◌, ◌%◌, ◌^◌, ◌==◌, nat_lt, Bool, if◌then◌else◌, List, take, slice_index, sum_by}
use Rattle.std.specs.List.{enumerate_from}

-- the value of the letter at this place of the alphabet: they rise by one from 10 on, leaving out 11, 22 and 33
abbrev pub letter_value : ℕ → ℕ
letter_value place = place + 10 + (if nat_lt place 1 then 0 else if nat_lt place 11 then 1 else if nat_lt place 21 then 2 else 3)

-- the value of a capital letter or of a digit
abbrev pub value_of : ℕ → ℕ
value_of letter = if nat_lt letter 65 then letter - 48 else letter_value (letter - 65)

-- the values, multiplied by 1, 2, 4, .., and added
abbrev pub weighed_sum : List ℕ → ℕ
weighed_sum text = sum_by (λ placed. 2 ^ placed.0 * value_of placed.1) (enumerate_from 0 text)

-- the digit that belongs to four letters and six digits: the sum mod 11, with 10 written as 0
abbrev pub check_digit : List ℕ → ℕ
check_digit text = weighed_sum text % 11 % 10

-- the eleventh is the check digit of the ten before it
abbrev pub ends_in_check_digit : List ℕ → Bool
ends_in_check_digit text = slice_index text 10 == check_digit (take 10 text) + 48
