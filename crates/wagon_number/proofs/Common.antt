-- What the proofs of this crate have in common: the names of other crates, of the standard library and of its own definitions.
pub use Rattle.std.specs.Char.{digit_char, digit_value, is_ascii_digit}
pub use Rattle.std.specs.List.{AllByRecursion, list_all}
pub use Rattle.std.specs.Prelude.{sum_by, ◌==◌, slice_index, ◌&&◌, if◌then◌else◌, nat_lt}
pub use Rattle.std.specs.Str.{IsAscii}
pub use Rattle.std.proofs.Common.{◌≡◌, ℕ, ◌+◌, ◌*◌, ◌<◌, ◌≤◌, Bool, true, List, [], ◌∷◌, length, get_or, All, refl, ◌∙◌, ap, arith, zero, suc, ◌/◌, ◌%◌, ◌^◌, ◌++◌, take, sym, length-append, lit<, append_assoc, false, map, Result, Ok, Err, eq-eqb, rules}
pub use Rattle.std.proofs.Math.Nat.{pow-suc, pow-le-pow_right}
pub use Rattle.std.proofs.lemmas.Bool.{eqb-true, agree_below_at, cond-true, and_parts, and_from, ltb-true, lt-ltb}
pub use Rattle.std.proofs.lemmas.Bool.Decides.{nat_tests}
pub use Rattle.std.proofs.lemmas.Int.Digits.{number_push, number_lt}
pub use Rattle.std.proofs.lemmas.List.{take_all, take_more, length-take, length-take-le, length-map}
pub use Rattle.std.proofs.lemmas.List.Elements.{All-get_or, All-nil, All-push, All-take, All-weaker, recursion_from_All, All-from_recursion, All-cons, All-head, All-tail}
pub use Rattle.std.proofs.lemmas.List.FromFn.{fill_by_all}
pub use Rattle.std.proofs.lemmas.List.Sums.{AllPass-from_list_all, list_all-from_AllPass}
pub use Rattle.std.proofs.lemmas.Str.{IsUtf8-from_ascii}
pub use Rattle.std.proofs.lemmas.Str.Ascii.{IsAscii-from_all, IsAscii-nil, IsAscii-cons}
pub use Rattle.wagon_number.specs.Digits.{products, digit_sum, number_in, digits_of, with_marks, without_marks, has_marks, text_of, number_of, marked_number_of, IsValid, has_check_digit, has_twelve_digits, shown_digits, is_valid}
unfoldable pub use Rattle.wagon_number.specs.Digits.{last_digits}
pub use Rattle.wagon_number.specs.Laws.{DigitsGiveTheNumber, NumberGivesTheDigits, MarkedTextIsRead, MarkedReadingIsExact, TextIsRead, ReadingIsExact, ValidityIsTested}
pub use Rattle.wagon_number.specs.declared.digits.TheConstants.{DOUBLED}
pub use Rattle.wagon_number.specs.declared.fault.NumberFault.{NumberFault}
pub use Rattle.wagon_number.specs.declared.fault.NumberFault.TheVariants.{NotTwelveDigits, BadCheckDigit}
pub use Rattle.wagon_number.specs.declared.pairs.TheConstants.{PAIRS}
