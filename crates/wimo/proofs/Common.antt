-- What the proofs of this crate have in common: the names of other crates, of the standard library and of its own definitions.
pub use Rattle.std.specs.List.{range_with_len, cons_option}
pub use Rattle.std.specs.Option.{option_to_list}
pub use Rattle.std.specs.Prelude.{filter_map, option_map}
pub use Rattle.std.proofs.Common.{◌≡◌, ℕ, ◌+◌, ◌<◌, ◌==◌, zero, suc, Bool, true, false, cond, List, [], ◌∷◌, ◌++◌, length, get_or, take, map, filter, Option, Some, None, refl, ap, sym, ◌∙◌, append_assoc, arith, add-one, ◌≤◌, drop, ◌-◌, vec_len, vec_capacity}
pub use Rattle.std.proofs.lemmas.List.{map-append, append-nil, at_drop_all, at_drop_more}
pub use Rattle.std.proofs.lemmas.List.Elements.{filter_map-append, filter_more}
pub use Rattle.taf_codes.specs.declared.code.UnitCode.{UnitCode}
pub use Rattle.trip_plan.specs.declared.parts.UnitLoad.{UnitLoad}
pub use Rattle.taf_messages.specs.declared.event.RecordEvent.{RecordEvent}
pub use Rattle.taf_messages.specs.declared.record.EstimateAt.{EstimateAt}
pub use Rattle.journey.specs.Legs.{HaveRoom, index_after}
pub use Rattle.journey.specs.declared.event.Event.{Event}
pub use Rattle.eti_chain.specs.EstimateStates.{EstimatesInTurn, in_turn_from}
pub use Rattle.eti_chain.specs.Estimates.{end_in, estimate_basis}
pub use Rattle.wimo.specs.Records.{record_event, record_events, units_among}
