-- Texts are read as the moments whose texts they are.
use Rattle.taf_moment.proofs.Common.{◌≡◌, ℕ, ◌+◌, ◌*◌, ◌/◌, ◌%◌, ◌<◌, ◌≤◌, Bool, true, false, List, [], ◌∷◌, ◌++◌, length, get_or, drop, map, pos, Ok, Err, refl, sym, ap, ◌∙◌, arith, codes, nat_le, ◌==◌, ◌&&◌, if◌then◌else◌, is_ascii_digit, bytes_eq, digits_value, cond-true, and_parts, and_from, leb-true, le-leb, length-map, get_or-map, drop_more, fill_by_all, bytes_eq-Decides, days_in_month_bounds, CalendarDate, BadMoment, is_date, day_number, date_after, digit_as_zero, has_form, number_in_letters, date_shown, is_moment, minutes_shown, text_at, moment_text, TextIsRead, ReadingIsExact}
use Rattle.taf_moment.proofs.DateLemmas.{IsCalendarDate, calendar_date_from_test, test_from_calendar_date, day_number-bound, date_after-day_number, date_after-is}
use Rattle.taf_moment.proofs.LetterLemmas.{digit_from_form, mark_from_form, digits_value-two_digits, digits_value-four_digits, form-two_digits, form-four_digits, two_digits-digits_value, four_digits-digits_value}

-- a text with digits and marks at their places
pub record IsFormed (text : List ℕ) : Type 0 where
  pub long : length text ≡ 17
  pub digit_0 : is_ascii_digit (get_or text 0 0) ≡ true
  pub digit_1 : is_ascii_digit (get_or text 1 0) ≡ true
  pub digit_2 : is_ascii_digit (get_or text 2 0) ≡ true
  pub digit_3 : is_ascii_digit (get_or text 3 0) ≡ true
  pub digit_5 : is_ascii_digit (get_or text 5 0) ≡ true
  pub digit_6 : is_ascii_digit (get_or text 6 0) ≡ true
  pub digit_8 : is_ascii_digit (get_or text 8 0) ≡ true
  pub digit_9 : is_ascii_digit (get_or text 9 0) ≡ true
  pub digit_11 : is_ascii_digit (get_or text 11 0) ≡ true
  pub digit_12 : is_ascii_digit (get_or text 12 0) ≡ true
  pub digit_14 : is_ascii_digit (get_or text 14 0) ≡ true
  pub digit_15 : is_ascii_digit (get_or text 15 0) ≡ true
  pub mark_4 : get_or text 4 0 ≡ 45
  pub mark_7 : get_or text 7 0 ≡ 45
  pub mark_10 : get_or text 10 0 ≡ 84
  pub mark_13 : get_or text 13 0 ≡ 58
  pub mark_16 : get_or text 16 0 ≡ 90

pub formed_from_test : (text : List ℕ) → has_form text ≡ true → IsFormed text
formed_from_test text passed =
    let same : map digit_as_zero text ≡ codes "0000-00-00T00:00Z" = (bytes_eq-Decides (map digit_as_zero text) (codes "0000-00-00T00:00Z")).0 passed in
    let long : length text ≡ 17 = sym (length-map text digit_as_zero) ∙ ap length same in
    let at : (k : ℕ) → k < 17 → digit_as_zero (get_or text k 0) ≡ get_or (codes "0000-00-00T00:00Z") k 0 =
    λ k small. sym (get_or-map digit_as_zero text k 0 0 (omega (arith, long, small))) ∙ ap (λ l. get_or l k 0) same in
    record {
      long = long;
      digit_0 = digit_from_form (get_or text 0 0) (at 0 (omega arith));
      digit_1 = digit_from_form (get_or text 1 0) (at 1 (omega arith));
      digit_2 = digit_from_form (get_or text 2 0) (at 2 (omega arith));
      digit_3 = digit_from_form (get_or text 3 0) (at 3 (omega arith));
      digit_5 = digit_from_form (get_or text 5 0) (at 5 (omega arith));
      digit_6 = digit_from_form (get_or text 6 0) (at 6 (omega arith));
      digit_8 = digit_from_form (get_or text 8 0) (at 8 (omega arith));
      digit_9 = digit_from_form (get_or text 9 0) (at 9 (omega arith));
      digit_11 = digit_from_form (get_or text 11 0) (at 11 (omega arith));
      digit_12 = digit_from_form (get_or text 12 0) (at 12 (omega arith));
      digit_14 = digit_from_form (get_or text 14 0) (at 14 (omega arith));
      digit_15 = digit_from_form (get_or text 15 0) (at 15 (omega arith));
      mark_4 = mark_from_form (get_or text 4 0) 45 (omega arith) (at 4 (omega arith));
      mark_7 = mark_from_form (get_or text 7 0) 45 (omega arith) (at 7 (omega arith));
      mark_10 = mark_from_form (get_or text 10 0) 84 (omega arith) (at 10 (omega arith));
      mark_13 = mark_from_form (get_or text 13 0) 58 (omega arith) (at 13 (omega arith));
      mark_16 = mark_from_form (get_or text 16 0) 90 (omega arith) (at 16 (omega arith));
    }

-- one letter more
pub fits_more : (fits : Bool) (text form : List ℕ) (place : ℕ) → place < length text → place < length form
    → (fits && bytes_eq (map digit_as_zero (drop place text)) (drop place form)) ≡ ((fits && (digit_as_zero (get_or text place 0) == get_or form place 0)) && bytes_eq (map digit_as_zero (drop (place + 1) text)) (drop (place + 1) form))
fits_more true text form place in_text in_form = rw (drop_more text place 0 in_text, drop_more form place 0 in_form) refl
fits_more false text form place in_text in_form = refl

-- the letters of such a text, one by one
pub letters_are : (text : List ℕ) → length text ≡ 17 → text ≡ get_or text 0 0 ∷ get_or text 1 0 ∷ get_or text 2 0 ∷ get_or text 3 0 ∷ get_or text 4 0 ∷ get_or text 5 0 ∷ get_or text 6 0 ∷ get_or text 7 0 ∷ get_or text 8 0 ∷ get_or text 9 0 ∷ get_or text 10 0 ∷ get_or text 11 0 ∷ get_or text 12 0 ∷ get_or text 13 0 ∷ get_or text 14 0 ∷ get_or text 15 0 ∷ get_or text 16 0 ∷ []
letters_are text long = fill_by_all (λ k. get_or text k 0) text 17 0 long (λ k h. refl)

-- its year, by pairs of digits
pub year_from_pairs : (text : List ℕ) → length text ≡ 17
    → number_in_letters text 0 4 ≡ 100 * digits_value 10 (get_or text 0 0 ∷ get_or text 1 0 ∷ []) + digits_value 10 (get_or text 2 0 ∷ get_or text 3 0 ∷ [])
year_from_pairs text long = ap (λ l. number_in_letters l 0 4) (letters_are text long) ∙ omega arith

-- such a text is that of the date, the hour and the minute that it shows
pub text_at-number_in_letters : (text : List ℕ) → IsFormed text → text_at (date_shown text) (number_in_letters text 11 13) (number_in_letters text 14 16) ≡ text
text_at-number_in_letters text is =
    let letters = letters_are text is.long in
    let t : ℕ → ℕ = λ k. get_or text k 0 in
    let year = four_digits-digits_value (t 0) (t 1) (t 2) (t 3) is.digit_0 is.digit_1 is.digit_2 is.digit_3 in
    let month = two_digits-digits_value (t 5) (t 6) is.digit_5 is.digit_6 in
    let day = two_digits-digits_value (t 8) (t 9) is.digit_8 is.digit_9 in
    let hour = two_digits-digits_value (t 11) (t 12) is.digit_11 is.digit_12 in
    let minute = two_digits-digits_value (t 14) (t 15) is.digit_14 is.digit_15 in
    ap (λ l. text_at (date_shown l) (number_in_letters l 11 13) (number_in_letters l 14 16)) letters
    ∙ (λ i. year i ++ codes "-" ++ month i ++ codes "-" ++ day i ++ codes "T" ++ hour i ++ codes ":" ++ minute i ++ codes "Z")
    ∙ rw (is.mark_4, is.mark_7, is.mark_10, is.mark_13, is.mark_16) refl
    ∙ sym letters

-- the text of a date, an hour and a minute has the form and shows them
text_at-has_form : (date : CalendarDate) (hour minute : ℕ) → IsCalendarDate date → hour ≤ 23 → minute ≤ 59 → has_form (text_at date hour minute) ≡ true
text_at-has_form date hour minute is hours minutes =
    let year = form-four_digits date.year (omega (arith, is.last_year)) in
    let month = form-two_digits date.month (omega (arith, is.last_month)) in
    let day = form-two_digits date.day (omega (arith, is.in_month, (days_in_month_bounds (pos date.year) date.month).0)) in
    let at_hour = form-two_digits hour (omega (arith, hours)) in
    let at_minute = form-two_digits minute (omega (arith, minutes)) in
    (bytes_eq-Decides (map digit_as_zero (text_at date hour minute)) (codes "0000-00-00T00:00Z")).1
    (λ i. year i ++ codes "-" ++ month i ++ codes "-" ++ day i ++ codes "T" ++ at_hour i ++ codes ":" ++ at_minute i ++ codes "Z")

date_shown-text_at : (date : CalendarDate) (hour minute : ℕ) → IsCalendarDate date → date_shown (text_at date hour minute) ≡ date
date_shown-text_at date hour minute is =
    let year = digits_value-four_digits date.year (omega (arith, is.last_year)) in
    let month = digits_value-two_digits date.month (omega (arith, is.last_month)) in
    let day = digits_value-two_digits date.day (omega (arith, is.in_month, (days_in_month_bounds (pos date.year) date.month).0)) in
    λ i. record { year = year i; month = month i; day = day i }

text_at-is_moment : (date : CalendarDate) (hour minute : ℕ) → IsCalendarDate date → hour ≤ 23 → minute ≤ 59
    → (is_moment (text_at date hour minute) ≡ true) × (minutes_shown (text_at date hour minute) ≡ 1440 * day_number date + 60 * hour + minute)
text_at-is_moment date hour minute is hours minutes =
    let same = date_shown-text_at date hour minute is in
    let at_hour : number_in_letters (text_at date hour minute) 11 13 ≡ hour = digits_value-two_digits hour (omega (arith, hours)) in
    let at_minute : number_in_letters (text_at date hour minute) 14 16 ≡ minute = digits_value-two_digits minute (omega (arith, minutes)) in (
      and_from _ _ (and_from _ _ (and_from _ _ (text_at-has_form date hour minute is hours minutes) (ap is_date same ∙ test_from_calendar_date date is)) (ap (λ h. nat_le h 23) at_hour ∙ le-leb hour 23 hours)) (ap (λ m. nat_le m 59) at_minute ∙ le-leb minute 59 minutes),
      λ i. 1440 * day_number (same i) + 60 * at_hour i + at_minute i,
    )

pub text_is_read : TextIsRead
unfolding moment_text
text_is_read minutes few =
    let date : CalendarDate = date_after (minutes / 1440) in
    let is = date_after-is (minutes / 1440) (omega (arith, few)) in
    let read = text_at-is_moment date (minutes % 1440 / 60) (minutes % 60) is.0 (omega arith) (omega arith) in
    cond-true _ _ _ read.0 ∙ ap Ok (read.1 ∙ omega (arith, is.1))

-- a choice that is Ok took its first side
ok_from_if : (b : Bool) (m n : ℕ) (fault : BadMoment) → (if b then Ok m else Err fault) ≡ Ok n → (b ≡ true) × (m ≡ n)
ok_from_if true m n fault h = (refl, cc)
ok_from_if false m n fault h = absurd cc

pub reading_is_exact : ReadingIsExact
unfolding moment_text
reading_is_exact text minutes h =
    let date : CalendarDate = date_shown text in
    let taken = ok_from_if (is_moment text) (minutes_shown text) minutes (record {}) h in
    let third = and_parts _ (nat_le (number_in_letters text 14 16) 59) taken.0 in
    let second = and_parts _ (nat_le (number_in_letters text 11 13) 23) third.0 in
    let first = and_parts (has_form text) (is_date date) second.0 in
    let at_minute = leb-true (number_in_letters text 14 16) 59 third.1 in
    let at_hour = leb-true (number_in_letters text 11 13) 23 second.1 in
    let is = calendar_date_from_test date first.1 in
    let day : minutes / 1440 ≡ day_number date = omega (arith, taken.1, at_hour, at_minute) in
    let hour : minutes % 1440 / 60 ≡ number_in_letters text 11 13 = omega (arith, taken.1, at_hour, at_minute) in
    let minute : minutes % 60 ≡ number_in_letters text 14 16 = omega (arith, taken.1, at_hour, at_minute) in
    let same : date_after (minutes / 1440) ≡ date = ap date_after day ∙ date_after-day_number date is in
    let written : moment_text minutes ≡ text_at date (number_in_letters text 11 13) (number_in_letters text 14 16) = λ i. text_at (same i) (hour i) (minute i) in
    (omega (arith, taken.1, at_hour, at_minute, day_number-bound date is), sym (written ∙ text_at-number_in_letters text (formed_from_test text first.0)))
