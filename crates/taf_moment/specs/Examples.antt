-- Worked examples: what some texts denote, and the texts of some moments.
use Rattle.std.specs.Prelude.{◌≡◌, codes, Ok, Err, refl}
use Rattle.taf_moment.specs.Calendar.{part_after, date_after, moment_of, moment_text}

pub first_minute : moment_of (codes "1970-01-01T00:00Z") ≡ Ok 0
first_minute = refl

pub leap_day : moment_of (codes "1972-02-29T12:34Z") ≡ Ok 1136914
leap_day = refl

pub morning : moment_of (codes "2025-03-01T06:00Z") ≡ Ok 29013480
morning = refl

pub last_minute : moment_of (codes "2199-12-31T23:59Z") ≡ Ok 120968639
last_minute = refl

pub no_leap_year : moment_of (codes "2100-02-29T00:00Z") ≡ Err (record {})
no_leap_year = refl

pub hour_24 : moment_of (codes "2025-03-01T24:00Z") ≡ Err (record {})
hour_24 = refl

pub small_letter : moment_of (codes "2025-03-01t06:00Z") ≡ Err (record {})
small_letter = refl

pub text_of_morning : moment_text 29013480 ≡ codes "2025-03-01T06:00Z"
unfolding moment_text date_after part_after
text_of_morning = refl

pub text_of_leap_day : moment_text 15864479 ≡ codes "2000-02-29T23:59Z"
unfolding moment_text date_after part_after
text_of_leap_day = refl

pub text_of_last_minute : moment_text 120968639 ≡ codes "2199-12-31T23:59Z"
unfolding moment_text date_after part_after
text_of_last_minute = refl
