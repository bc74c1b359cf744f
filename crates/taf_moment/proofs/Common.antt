-- What the proofs of this crate have in common: the names of other crates, of the standard library and of its own definitions.
pub use Rattle.std.specs.Char.{is_ascii_digit, digit_char, digit_value}
pub use Rattle.std.specs.List.{range_with_len}
pub use Rattle.std.specs.Prelude.{sum_by, nat_le, ◌==◌, ◌&&◌, codes, if◌then◌else◌}
pub use Rattle.std.specs.Str.{IsAscii, bytes_eq}
pub use Rattle.std.specs.Str.Parse.{digits_value}
pub use Rattle.std.proofs.Common.{◌≡◌, ℕ, zero, suc, ◌+◌, ◌-◌, ◌<◌, ◌≤◌, true, ℤ, pos, negsuc, unsigned_abs, refl, sym, ap, ◌∙◌, arith, ◌≢◌, ◌*◌, ◌/◌, ◌%◌, [], ◌∷◌, ◌++◌, map, inl, inr, Bool, get_or, false, List, length, drop, Ok, Err, to_z, of_z, w16, rules, Some, subst}
pub use Rattle.std.proofs.lemmas.Bool.{and_parts, and_from, leb-true, le-leb, cases_lt, lt-ltb, le-ltb, eqb-true, agree_below_at, cond-true}
pub use Rattle.std.proofs.lemmas.Bool.Decides.{nat_tests}
pub use Rattle.std.proofs.lemmas.Int.{ints}
pub use Rattle.std.proofs.lemmas.List.{length-map, get_or-map, drop_more}
pub use Rattle.std.proofs.lemmas.List.FromFn.{fill_by_all}
pub use Rattle.std.proofs.lemmas.List.Sums.{sum_by-cons}
pub use Rattle.std.proofs.lemmas.Slice.Eq.{bytes_eq-Decides}
pub use Rattle.std.proofs.lemmas.Str.{IsUtf8-from_ascii}
pub use Rattle.std.proofs.lemmas.Str.Ascii.{IsAscii-nil, IsAscii-cons}
pub use Rattle.jiff_core.specs.Calendar.{days_from_civil, day_count, day_of_year, IsCivilDate}
unfoldable pub use Rattle.jiff_core.specs.Calendar.{days_of_months}
pub use Rattle.jiff_core.specs.Date.{epoch_day}
pub use Rattle.jiff_core.specs.declared.civil.date.Date.{Date}
pub use Rattle.jiff_core.proofs.CalendarLemmas.{day_count-epoch, days_from_civil-day_count, days_of_months_all, day_count-day_of_year, day_count-next_year, day_count-later_year, day_count-lt_year, day_of_year_bound, days_in_month_bounds}
pub use Rattle.jiff_core.proofs.SignedLemmas.{signed_arith}
pub use Rattle.taf_moment.specs.Calendar.{year_length, month_length, is_date, days_before, day_number, last_day, digit_as_zero, two_digits, four_digits, has_form, number_in_letters, date_shown, is_moment, minutes_shown, text_at}
unfoldable pub use Rattle.taf_moment.specs.Calendar.{part_after, date_after, moment_text}
pub use Rattle.taf_moment.specs.Laws.{TextIsRead, ReadingIsExact}
pub use Rattle.taf_moment.specs.declared.date.CalendarDate.{CalendarDate}
pub use Rattle.taf_moment.specs.declared.fault.BadMoment.{BadMoment}
pub use Rattle.taf_moment.specs.declared.moment.TheConstants.{PAIRS}
