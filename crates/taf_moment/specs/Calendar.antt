-- Moments: the minutes from 1970-01-01 to 2199-12-31 in the Gregorian calendar, and their texts `YYYY-MM-DDThh:mmZ`.
-- `moment_of` computes on a given text, and `moment_text` on a number under `unfolding moment_text date_after part_after`.
use Rattle.std.specs.Prelude.{ℕ, ◌+◌, ◌-◌, ◌*◌, ◌/◌, ◌%◌, ◌&&◌, nat_lt, nat_le, pos, Bool, List, [], ◌∷◌, ◌++◌, map, sum_by, slice_range, codes, Option, Some, None, Result, Ok, Err, if◌then◌else◌}
use Rattle.std.specs.Char.{is_ascii_digit, digit_char}
use Rattle.std.specs.List.{range_with_len}
use Rattle.std.specs.Str.{bytes_eq}
use Rattle.std.specs.Str.Parse.{digits_value}
use Rattle.jiff_core.specs.Calendar.{days_in_year, days_in_month}
use Rattle.taf_moment.specs.declared.date.CalendarDate.{CalendarDate}
use Rattle.taf_moment.specs.declared.fault.BadMoment.{BadMoment}

-- ---- dates

-- the days of a year
abbrev pub year_length : ℕ → ℕ
year_length year = days_in_year (pos year)

-- the days of a month of a year
abbrev pub month_length : ℕ → ℕ → ℕ
month_length year month = days_in_month (pos year) month

-- the calendar has the date, in the years 1970 to 2199
abbrev pub is_date : CalendarDate → Bool
is_date date =
    nat_le 1970 date.year && nat_le date.year 2199 && nat_le 1 date.month && nat_le date.month 12 && nat_le 1 date.day
    && nat_le date.day (month_length date.year date.month)

-- the days of the years, or months, from the first up to another, which is not counted
abbrev pub days_before : (ℕ → ℕ) → ℕ → ℕ → ℕ
days_before length_of first other = sum_by length_of (range_with_len first (other - first))

-- the days from 1970-01-01 to a date
abbrev pub day_number : CalendarDate → ℕ
day_number date = days_before year_length 1970 date.year + days_before (month_length date.year) 1 date.month + (date.day - 1)

-- the day number of 2199-12-31
abbrev pub last_day : ℕ
last_day = 84005

-- the year, or month, that so many days lead to, and the days that pass in it: whole ones are taken off the days
unfoldable pub part_after : (ℕ → ℕ) → List ℕ → ℕ → ℕ × ℕ
part_after length_of [] days = (0, days)
part_after length_of (part ∷ parts) days =
    if nat_lt days (length_of part) then (part, days) else part_after length_of parts (days - length_of part)

-- the date so many days after 1970-01-01, in the years to 2199
unfoldable pub date_after : ℕ → CalendarDate
date_after days =
    let year = part_after year_length (range_with_len 1970 230) days in
    let month = part_after (month_length year.0) (range_with_len 1 12) year.1 in
    record { year = year.0; month = month.0; day = month.1 + 1 }

-- ---- minutes

-- 2199-12-31T23:59Z
abbrev pub last_minute : ℕ
last_minute = 120968639

-- the moment with this number of minutes, if the calendar has it
abbrev pub moment_at : ℕ → Option ℕ
moment_at minutes = if nat_le minutes last_minute then Some minutes else None

-- ---- what a text denotes

-- a letter, with `0` (48) in place of each digit
abbrev pub digit_as_zero : ℕ → ℕ
digit_as_zero letter = if is_ascii_digit letter then 48 else letter

-- a text of seventeen letters with digits and marks at their places
abbrev pub has_form : List ℕ → Bool
has_form text = bytes_eq (map digit_as_zero text) (codes "0000-00-00T00:00Z")

-- the number that the letters from one place up to another show
abbrev pub number_in_letters : List ℕ → ℕ → ℕ → ℕ
number_in_letters text from upto = digits_value 10 (slice_range text from upto)

-- the date that a text shows
abbrev pub date_shown : List ℕ → CalendarDate
date_shown text = record { year = number_in_letters text 0 4; month = number_in_letters text 5 7; day = number_in_letters text 8 10 }

-- a text of that form with a date of the calendar, an hour to 23 and a minute to 59
abbrev pub is_moment : List ℕ → Bool
is_moment text = has_form text && is_date (date_shown text) && nat_le (number_in_letters text 11 13) 23 && nat_le (number_in_letters text 14 16) 59

-- the minutes from 1970-01-01T00:00Z to what a text shows
abbrev pub minutes_shown : List ℕ → ℕ
minutes_shown text = 1440 * day_number (date_shown text) + 60 * number_in_letters text 11 13 + number_in_letters text 14 16

-- the moment that a text denotes
abbrev pub moment_of : List ℕ → Result ℕ BadMoment
moment_of text = if is_moment text then Ok (minutes_shown text) else Err (record {})

-- ---- the text of a moment

-- a number below 100 in two digits
abbrev pub two_digits : ℕ → List ℕ
two_digits n = digit_char (n / 10) ∷ digit_char (n % 10) ∷ []

-- a number below 10,000 in four digits
abbrev pub four_digits : ℕ → List ℕ
four_digits n = two_digits (n / 100) ++ two_digits (n % 100)

-- the text of a date, an hour and a minute
abbrev pub text_at : CalendarDate → ℕ → ℕ → List ℕ
text_at date hour minute =
    four_digits date.year ++ codes "-" ++ two_digits date.month ++ codes "-" ++ two_digits date.day ++ codes "T"
    ++ two_digits hour ++ codes ":" ++ two_digits minute ++ codes "Z"

-- the text of a moment
unfoldable pub moment_text : ℕ → List ℕ
moment_text minutes = text_at (date_after (minutes / 1440)) (minutes % 1440 / 60) (minutes % 60)
