-- What the proofs of this crate have in common: the names of other crates, of the standard library and of its own definitions.
pub use Rattle.std.specs.Cmp.Lexicographic.{pointwise}
pub use Rattle.std.specs.List.{list_all, IsSplitAt}
pub use Rattle.std.specs.Prelude.{IfNone, IfSome, MatchOption}
pub use Rattle.std.specs.Result.{result_unwrap_or}
pub use Rattle.std.specs.Str.{IsAscii, IsUtf8}
pub use Rattle.std.proofs.Common.{◌≡◌, ◌≢◌, ℕ, ◌+◌, ◌<◌, ◌≤◌, ◌==◌, ◌||◌, Bool, true, false, List, [], ◌∷◌, ◌++◌, length, take, drop, get_or, codes, Option, Some, None, Ok, if◌then◌else◌, refl, sym, ◌∙◌, ap, subst, arith, rules, append_assoc, length-append, eqb, Result, Bor}
pub use Rattle.std.proofs.Math.Seq.{take-append_seam, drop-append_seam}
pub use Rattle.std.proofs.lemmas.Bool.{and_parts, eqb-true, false≢true}
pub use Rattle.std.proofs.lemmas.Bool.Decides.{Decides-eqb}
pub use Rattle.std.proofs.lemmas.Grind.{common_steps}
pub use Rattle.std.proofs.lemmas.List.Sums.{AllPass-from_list_all}
pub use Rattle.std.proofs.lemmas.List.{take-append-drop}
pub use Rattle.std.proofs.lemmas.Slice.Eq.{slice_eq-Decides, strip_prefix_is, strip_suffix_is}
pub use Rattle.std.proofs.lemmas.Str.{IsUtf8-from_ascii}
pub use Rattle.std.proofs.lemmas.Str.Ascii.{IsAscii-from_all}
pub use Rattle.std.specs.Char.{is_ascii_digit, is_ascii_uppercase}
pub use Rattle.taf_codes.specs.Codes.{is_railway, are_code_letters}
pub use Rattle.wagon_number.specs.declared.fault.NumberFault.{NumberFault}
pub use Rattle.wagon_number.specs.Digits.{IsVehicleNumber, digits_of, number_of, text_of}
pub use Rattle.wagon_number.proofs.TextLemmas.{length-text_of, text_is_read, IsAscii-letters}
pub use Rattle.board_paths.specs.declared.resource.Resource.{Resource}
pub use Rattle.board_paths.specs.declared.resource.Resource.TheVariants.{Entry, Page, Wagons, Legs, Wagon, WagonLegs, Health, Metrics}
pub use Rattle.board_paths.specs.Paths.{below, wagon_name, path_of, railway_in, IsValid, PathsNameOneResource, WhatIsBelowIsTheRailways}
