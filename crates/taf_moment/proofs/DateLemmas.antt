-- Dates and their day numbers go together, and are those of `jiff_core`.
use Rattle.taf_moment.proofs.Common.{◌≡◌, ℕ, zero, suc, ◌+◌, ◌-◌, ◌<◌, ◌≤◌, true, ℤ, pos, negsuc, unsigned_abs, refl, sym, ap, ◌∙◌, arith, sum_by, nat_le, range_with_len, and_parts, and_from, leb-true, le-leb, days_from_civil, day_count, day_of_year, days_of_months, IsCivilDate, epoch_day, Date, signed_arith, day_count-epoch, days_from_civil-day_count, days_of_months_all, day_count-day_of_year, day_count-next_year, day_count-later_year, day_count-lt_year, day_of_year_bound, CalendarDate, year_length, month_length, is_date, days_before, day_number, last_day, part_after, date_after}
use Rattle.taf_moment.proofs.PartLemmas.{pair, sum_by-range_more, days_before-place, part_after-is, leads_to}
use borrow.Author.Differences.{up, down}

-- what the test of a date says
pub record IsCalendarDate (date : CalendarDate) : Type 0 where
  pub first_year : 1970 ≤ date.year
  pub last_year : date.year ≤ 2199
  pub first_month : 1 ≤ date.month
  pub last_month : date.month ≤ 12
  pub first_day : 1 ≤ date.day
  pub in_month : date.day ≤ month_length date.year date.month

pub calendar_date_from_test : (date : CalendarDate) → is_date date ≡ true → IsCalendarDate date
calendar_date_from_test date passed =
    let sixth = and_parts _ (nat_le date.day (month_length date.year date.month)) passed in
    let fifth = and_parts _ (nat_le 1 date.day) sixth.0 in
    let fourth = and_parts _ (nat_le date.month 12) fifth.0 in
    let third = and_parts _ (nat_le 1 date.month) fourth.0 in
    let second = and_parts (nat_le 1970 date.year) (nat_le date.year 2199) third.0 in
    record {
      first_year = leb-true _ _ second.0;
      last_year = leb-true _ _ second.1;
      first_month = leb-true _ _ third.1;
      last_month = leb-true _ _ fourth.1;
      first_day = leb-true _ _ fifth.1;
      in_month = leb-true _ _ sixth.1;
    }

pub test_from_calendar_date : (date : CalendarDate) → IsCalendarDate date → is_date date ≡ true
test_from_calendar_date date is =
    and_from _ _ (and_from _ _ (and_from _ _ (and_from _ _ (and_from _ _ (le-leb _ _ is.first_year) (le-leb _ _ is.last_year)) (le-leb _ _ is.first_month)) (le-leb _ _ is.last_month)) (le-leb _ _ is.first_day)) (le-leb _ _ is.in_month)

-- it is a date of `jiff_core`
civil_date : (date : CalendarDate) → IsCalendarDate date → IsCivilDate (pos date.year) date.month date.day
civil_date date is = (
  (omega (arith, signed_arith, is.last_year), omega (arith, signed_arith, is.last_year)),
  (is.first_month, is.last_month),
  (is.first_day, is.in_month),
)

-- the days of the first months, and those of the years from 1970, as `jiff_core` counts them
months_are : (year count : ℕ) → days_of_months (pos year) count ≡ sum_by (month_length year) (range_with_len 1 count)
unfolding days_of_months
months_are year zero = refl
months_are year (suc count) =
    omega (arith, months_are year count, sum_by-range_more (month_length year) 1 count (suc count) (omega arith))

years_are : (count : ℕ) → day_count (pos (1970 + count)) 1 1 ≡ 4_371_953 + sum_by year_length (range_with_len 1970 count)
years_are zero = let here : 1970 + 0 ≡ 1970 = omega arith in rw here (omega (arith, day_count-epoch))
years_are (suc count) =
    omega (arith, years_are count, sum_by-range_more year_length 1970 count (1970 + count) refl, day_count-next_year (pos (1970 + count)) (pos (1970 + suc count)) (omega (arith, signed_arith)) (omega (arith, signed_arith)))

-- all months make a year, and all years 84,006 days
all_months : (year : ℕ) → sum_by (month_length year) (range_with_len 1 12) ≡ year_length year
all_months year = sym (months_are year 12) ∙ days_of_months_all (pos year)

all_years : sum_by year_length (range_with_len 1970 230) ≡ 84_006
all_years = refl

-- the days of a date's year up to it
days_of_year : (date : CalendarDate) → IsCalendarDate date
    → day_of_year (pos date.year) date.month date.day ≡ days_before (month_length date.year) 1 date.month + (date.day - 1) + 1
days_of_year date is = omega (arith, months_are date.year (date.month - 1), is.first_day)

-- a day number is a day count of `jiff_core` from 1970 on
day_count-day_number : (date : CalendarDate) → IsCalendarDate date → day_count (pos date.year) date.month date.day ≡ 4_371_953 + day_number date
day_count-day_number date is =
    let year : 1970 + (date.year - 1970) ≡ date.year = omega (arith, is.first_year) in
    let first = rw year at (years_are (date.year - 1970)) in
    omega (arith, first, day_count-day_of_year (pos date.year) date.month date.day is.first_day, days_of_year date is)

pub day_number-bound : (date : CalendarDate) → IsCalendarDate date → day_number date ≤ last_day
day_number-bound date is =
    omega (arith, day_count-day_number date is, years_are 230, all_years, day_count-lt_year (pos date.year) date.month date.day (pos 2200) 1 1 (civil_date date is) (omega arith) (omega (arith, signed_arith, is.last_year)))

-- the days of a date lead to its year, and those that are left to its month
year_after : (date : CalendarDate) → IsCalendarDate date
    → part_after year_length (range_with_len 1970 230) (day_number date) ≡ (date.year, days_before (month_length date.year) 1 date.month + (date.day - 1))
year_after date is =
    let year : 1970 + (date.year - 1970) ≡ date.year = omega (arith, is.first_year) in
    let rest : ℕ = days_before (month_length date.year) 1 date.month + (date.day - 1) in
    let within : rest < year_length date.year = omega (arith, days_of_year date is, day_of_year_bound (pos date.year) date.month date.day (civil_date date is)) in
    part_after-is year_length 230 1970 (date.year - 1970) (day_number date) rest (omega (arith, is.last_year)) (rw year within) (omega arith)
    ∙ ap (λ y. pair y rest) year

month_after : (date : CalendarDate) → IsCalendarDate date
    → part_after (month_length date.year) (range_with_len 1 12) (days_before (month_length date.year) 1 date.month + (date.day - 1)) ≡ (date.month, date.day - 1)
month_after date is =
    let month : 1 + (date.month - 1) ≡ date.month = omega (arith, is.first_month) in
    let within : date.day - 1 < month_length date.year date.month = omega (arith, is.first_day, is.in_month) in
    part_after-is (month_length date.year) 12 1 (date.month - 1) _ (date.day - 1) (omega (arith, is.last_month)) (rw month within) refl
    ∙ ap (λ m. pair m (date.day - 1)) month

-- the date after as many days as a date has is that date
pub date_after-day_number : (date : CalendarDate) → IsCalendarDate date → date_after (day_number date) ≡ date
unfolding date_after
date_after-day_number date is =
    let day : date.day - 1 + 1 ≡ date.day = omega (arith, is.first_day) in
    rw (year_after date is, month_after date is) (λ i. record { year = date.year; month = date.month; day = day i })

-- each day of the years has its date
pub record DateOf (days : ℕ) : Type 0 where
  pub date : CalendarDate
  pub is_real : IsCalendarDate date
  pub number : day_number date ≡ days

date_of : (days : ℕ) → days ≤ last_day → DateOf days
date_of days few =
    let years = leads_to year_length 230 1970 days (omega (arith, all_years, few)) in
    let year : ℕ = 1970 + years.place in
    let months = leads_to (month_length year) 12 1 years.rest (rw all_months years.within) in
    let month : ℕ = 1 + months.place in
    record {
      date = record { year = year; month = month; day = months.rest + 1 };
      is_real = record {
        first_year = omega arith;
        last_year = omega (arith, years.in_range);
        first_month = omega arith;
        last_month = omega (arith, months.in_range);
        first_day = omega arith;
        in_month = omega (arith, months.within);
      };
      number = omega (arith, days_before-place year_length 1970 years.place, days_before-place (month_length year) 1 months.place, years.days_are, months.days_are);
    }

-- it is the date after so many days
pub date_after-is : (days : ℕ) → days ≤ last_day → IsCalendarDate (date_after days) × (day_number (date_after days) ≡ days)
date_after-is days few =
    let found = date_of days few in
    let same : date_after days ≡ found.date = ap date_after (sym found.number) ∙ date_after-day_number found.date found.is_real in
    rw same (found.is_real, found.number)

-- ---- dates of `jiff_core`

-- a number that is not negative
not_negative : (z : ℤ) (n : ℕ) → up z + 4_371_953 ≡ down z + n → 4_371_953 ≤ n → (z ≡ pos (unsigned_abs z)) × (unsigned_abs z + 4_371_953 ≡ n)
not_negative (pos k) n e low = (refl, omega arith)
not_negative (negsuc k) n e low = absurd (omega arith)

-- a date that `jiff_core` has is one of the calendar here, and has that day number
pub epoch_day-is : (day : Date) (date : CalendarDate) → day.year ≡ pos date.year → day.month ≡ date.month → day.day ≡ date.day → 1970 ≤ date.year → date.year ≤ 2199
    → IsCalendarDate date × (epoch_day day ≡ pos (day_number date))
epoch_day-is day date year month number low high =
    let is : IsCalendarDate date = record {
      first_year = low;
      last_year = high;
      first_month = omega (arith, day.month_in, month);
      last_month = omega (arith, day.month_in, month);
      first_day = omega (arith, day.day_in, number);
      in_month = rw (year, month, number) at day.day_in.1;
    } in
    let count = days_from_civil-day_count (pos date.year) date.month date.day in
    let counted = not_negative (days_from_civil (pos date.year) date.month date.day) (day_count (pos date.year) date.month date.day) count (omega (arith, day_count-day_number date is)) in
    let same : unsigned_abs (days_from_civil (pos date.year) date.month date.day) ≡ day_number date = omega (arith, counted.1, day_count-day_number date is) in
    (is, rw (year, month, number) (counted.0 ∙ ap pos same))

-- a day count from 1970 to 2199 is that of the date after so many days
counted_date : (year : ℤ) (month day days : ℕ) → IsCivilDate year month day → day_count year month day ≡ 4_371_953 + days → days ≤ last_day
    → (year ≡ pos (date_after days).year) × (month ≡ (date_after days).month) × (day ≡ (date_after days).day)
counted_date (negsuc k) month day days civil e few =
    absurd (omega (arith, day_count-lt_year (negsuc k) month day (pos 1970) 1 1 civil (omega arith) (omega (arith, signed_arith)), day_count-epoch))
counted_date (pos y) month day days civil e few =
    let not_early : y < 1970 → ⊥ = λ early. omega (arith, day_count-lt_year (pos y) month day (pos 1970) 1 1 civil (omega arith) (omega (arith, signed_arith)), day_count-epoch) in
    let not_late : 2199 < y → ⊥ = λ late. omega (arith, e, years_are 229, sum_by-range_more year_length 1970 229 2199 refl, all_years, day_count-later_year (pos 2199) (pos y) (omega (arith, signed_arith)) (omega (arith, signed_arith)), day_count-day_of_year (pos y) month day civil.2.0, civil.2.0) in
    let date : CalendarDate = record { year = y; month = month; day = day } in
    let is : IsCalendarDate date = record {
      first_year = omega (arith, not_early);
      last_year = omega (arith, not_late);
      first_month = civil.1.0;
      last_month = civil.1.1;
      first_day = civil.2.0;
      in_month = civil.2.1;
    } in
    let number : day_number date ≡ days = omega (arith, e, day_count-day_number date is) in
    let same : date_after days ≡ date = ap date_after (sym number) ∙ date_after-day_number date is in
    rw same (refl, refl, refl)

pub date_after-epoch_day : (day : Date) (days : ℕ) → epoch_day day ≡ pos days → days ≤ last_day
    → (day.year ≡ pos (date_after days).year) × (day.month ≡ (date_after days).month) × (day.day ≡ (date_after days).day)
date_after-epoch_day day days e few =
    let count = days_from_civil-day_count day.year day.month day.day in
    counted_date day.year day.month day.day days (day.year_in, day.month_in, day.day_in) (omega (arith, signed_arith, e, count)) few
