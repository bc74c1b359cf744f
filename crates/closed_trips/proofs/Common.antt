-- What the proofs of this crate have in common: the names of other crates, of the standard library and of its own definitions.
pub use Rattle.std.specs.Prelude.{IsTrue, All, nat_eq, not, ◌&&◌, fold}
pub use Rattle.std.specs.List.{list_all, list_any, slice_get}
pub use Rattle.std.proofs.Common.{arith, take}
pub use Rattle.std.specs.Prelude.{option_map}
pub use Rattle.std.proofs.Math.Seq.{take-add}
pub use Rattle.std.proofs.lemmas.List.{take_all, take_more, length-map}
pub use Rattle.std.proofs.lemmas.List.Elements.{All-append, All-cons, All-nil, filter_map-append}
pub use Rattle.std.proofs.lemmas.Option.{slice_get_within, get_or_from_slice_get, slice_get-map}
pub use Rattle.hub_model.specs.Common.{record_of}
pub use Rattle.hub_model.proofs.Common.{◌≡◌, ℕ, ◌+◌, ◌≤◌, Bool, true, false, cond, List, [], ◌∷◌, ◌++◌, length, Option, Some, None, refl, ap, ◌∙◌, sym, subst, inl, inr, eqb, map, drop, bytes_eq, or_cases, and_parts, eqb-true, none-some, same_Some, list_any-append, bytes_eq-Decides, not-false, cases_Bool, Railway, UnitCode, ConsignmentId, UnitLoad, has, loads, Send, Message, Body, same_name, HubState, new_state, after_call, step, IsSend}
pub use Rattle.taf_messages.specs.declared.call.Call.{Call}
pub use Rattle.taf_messages.specs.declared.record.Record.{Record}
pub use Rattle.hub_model.specs.declared.entry.Entry.{Entry}
pub use Rattle.hub_model.specs.Histories.{IsLegal, IsLegalFrom, state_of, state_after}
pub use Rattle.hub_model.specs.Replies.{records_of, view, reply_to}
pub use Rattle.hub_model.specs.Updates.{after}
pub use Rattle.hub_model.proofs.NamedWagonLemmas.{from_same_name}
pub use Rattle.carry_over.specs.Names.{Names, Divide, IsOnOneSide, is_of}
pub use Rattle.closed_trips.specs.Sides.{is_on, are_wagons_on, are_loads_on, is_body_on, is_on_one_side}
pub use Rattle.closed_trips.specs.Closed.{AreClosed, StaysOrIsDelivered, StaysOrIsNotOpen}
