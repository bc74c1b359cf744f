-- What the proofs of this crate have in common: the names of other crates, of the standard library and of its own definitions.
pub use Rattle.std.specs.Char.{is_ascii_digit, is_ascii_uppercase}
pub use Rattle.std.specs.Int.{w32, to_le_bytes, from_le_bytes}
pub use Rattle.std.specs.List.{list_all, enumerate_from}
pub use Rattle.std.specs.Prelude.{sum_by, replicate, nat_eq, bytes_eq}
pub use Rattle.std.specs.Str.{IsAscii}
pub use Rattle.std.proofs.Common.{◌≡◌, ℕ, ◌<◌, ◌==◌, Bool, true, ◌||◌, List, length, take, drop, arith, subst, ◌+◌, ◌*◌, ◌%◌, ◌^◌, ◌≤◌, [], ◌∷◌, ◌++◌, get_or, ap, ◌∙◌, ◌-◌, sym, length-append, inl, inr, rules}
pub use Rattle.std.proofs.Math.Nat.{mod-eq_of_lt, mul-le-mul_left}
pub use Rattle.std.proofs.Math.Pow.{pow_mono}
pub use Rattle.std.proofs.Math.Seq.{take-append_seam}
pub use Rattle.std.proofs.lemmas.Bool.{and_parts, cases_Bool, false≢true}
pub use Rattle.std.proofs.lemmas.Grind.{common_steps}
pub use Rattle.std.proofs.lemmas.List.{take-append-drop, length-take-le, take_more, drop-replicate}
pub use Rattle.std.proofs.lemmas.List.Sums.{AllPass-from_list_all, sum_by_push}
pub use Rattle.std.proofs.lemmas.Nat.{le_bytes_4}
pub use Rattle.std.proofs.lemmas.Str.{IsAscii-append, IsUtf8-from_ascii}
pub use Rattle.std.proofs.lemmas.Str.Ascii.{IsAscii-from_all}
pub use Rattle.taf_codes.specs.Codes.{are_letters_then_digits, has_unit_form, is_name, is_unit_code}
pub use Rattle.taf_codes.specs.Equality.{numbers, texts}
pub use Rattle.taf_codes.specs.Padded.{IsPadded, with_zeros}
pub use Rattle.taf_codes.specs.UnitDigits.{value_of, weighed_sum}
