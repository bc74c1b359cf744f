-- What the proofs of this crate have in common: the names of other crates, of the standard library and of its own definitions.
pub use Rattle.std.specs.List.{slice_get}
pub use Rattle.std.specs.Option.{option_copied_mut}
pub use Rattle.std.specs.Prelude.{option_map, min}
pub use Rattle.std.specs.Map.{keys_of, lookup}
pub use Rattle.std.specs.VecDeque.Iter.{deque_iter_rest}
pub use Rattle.std.proofs.Common.{rules, ◌≡◌, ap, ◌≤◌, Bool, true, false, cond, List, Option, Some, Result, Ok, Err, OnErr, is_some, bytes_eq, refl, sym, ◌∙◌, subst, arith, ℕ, None, map, OnOk, ◌<◌, ◌^◌, ◌+◌, [], ◌∷◌, ◌++◌, length, take, drop, zero, suc, ◌-◌, vec_len, vec_capacity}
pub use Rattle.std.proofs.lemmas.List.{append-nil, append_assoc, take_all, take-append-le, drop-drop, length_push}
pub use Rattle.std.proofs.lemmas.Map.Entries.{lookup_from_place}
pub use Rattle.std.proofs.lemmas.Map.Made.{lookup_key_same}
pub use Rattle.std.proofs.lemmas.Option.{same_Some, slice_get-map}
pub use Rattle.std.proofs.lemmas.Slice.Eq.{bytes_eq-Decides}
pub use Rattle.indexmap.proofs.CallerLemmas.{updates-with_value_at, keys-with_value_at}
pub use Rattle.indexmap.specs.IndexMap.{IndexMap, values, with_value_at, IsUnique}
pub use Rattle.taf_codes.specs.Equality.{texts, is_equivalence}
pub use Rattle.taf_codes.specs.declared.code.Railway.{Railway}
pub use Rattle.taf_messages.specs.declared.item.Item.{Item}
pub use Rattle.taf_messages.specs.declared.item.ItemBody.{ItemBody}
pub use Rattle.outbox.specs.Keeping.{Keeps}
pub use Rattle.outbox.specs.Numbering.{items_to_fetch}
pub use Rattle.outbox.specs.OutboxStates.{BoxState, outbox_state_of, outbox_state_in, room_for, room_in, has_box, with_items, last_of, IsAt, OutboxState, items_from_number, first_items}
