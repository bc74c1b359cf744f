-- What the proofs of this crate have in common: the names of other crates, of the standard library and of its own definitions.
pub use Rattle.std.specs.List.{slice_get}
pub use Rattle.std.specs.Map.{keys_of, lookup}
pub use Rattle.std.specs.Option.{option_map_or, option_flatten, option_copied_mut}
pub use Rattle.std.specs.Prelude.{◌==◌, ◌&&◌, option_and_then, option_map, is_some, IfOk}
pub use Rattle.std.proofs.Common.{◌≡◌, ℕ, Bool, true, false, cond, List, Option, Some, bytes_eq, refl, ap, sym, ◌∙◌, subst, ◌<◌, ◌≤◌, zero, suc, [], ◌∷◌, ◌++◌, length, map, None, arith, set, ◌+◌, ◌-◌}
pub use Rattle.std.proofs.Math.Dec.{eqb-suc-suc, eqb-zero-suc, eqb-suc-zero}
pub use Rattle.std.proofs.lemmas.Map.Entries.{lookup_from_place}
pub use Rattle.std.proofs.lemmas.Map.Made.{lookup_key_same}
pub use Rattle.std.proofs.lemmas.Option.{same_Some, slice_get-map}
pub use Rattle.std.proofs.lemmas.Slice.Eq.{bytes_eq-Decides}
pub use Rattle.indexmap.proofs.CallerLemmas.{updates-with_value_at, keys-with_value_at}
pub use Rattle.indexmap.specs.IndexMap.{IndexMap, values, with_value_at, IsUnique}
pub use Rattle.taf_codes.specs.Equality.{texts, is_equivalence}
pub use Rattle.taf_codes.specs.declared.code.Railway.{Railway}
pub use Rattle.replay_numbers.specs.Names.{same_name}
pub use Rattle.replay_numbers.specs.SentPositions.{SentState, IsAt, position_in, has_room_in, position_of, has_room}
