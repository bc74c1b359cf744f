-- What the proofs of this crate have in common: the names of other crates, of the standard library and of its own definitions.
pub use Rattle.std.specs.List.{All}
pub use Rattle.std.specs.Prelude.{slice_get, ◌^◌, min}
pub use Rattle.std.proofs.Common.{◌≡◌, ℕ, zero, suc, ◌+◌, ◌-◌, ◌<◌, ◌≤◌, eqb, eq-eqb, ne_eqb, cond, Bool, true, false, List, [], ◌∷◌, length, take, drop, get_or, set, Some, sum_by, refl, sym, ap, ◌∙◌, subst, arith, lt_of_not-le, get_or-take, length-take-le, ◌≢◌, None, map, ◌++◌, length-append, length-drop, rules}
pub use Rattle.std.proofs.lemmas.List.{take_more, get_or_default, get_or-set_same, get_or-set_other, take_all}
pub use Rattle.std.proofs.lemmas.List.Elements.{All-push, All-nil, All-head, All-tail}
pub use Rattle.std.proofs.lemmas.List.Sums.{sum_by_more, sum_by_more_le, sum_by-set, sum_by-cons, sum_by-take-le, count_by-le-length}
pub use Rattle.std.proofs.lemmas.Option.{slice_get_within, get_or_from_slice_get, slice_get_read}
pub use Rattle.std.proofs.lemmas.Result.{err_from_is_err_and}
pub use Rattle.taf_messages.specs.declared.reply.Reply.{Reply}
pub use Rattle.tallies.specs.Tallies.{TallyState}
pub use Rattle.tallies.specs.declared.tally.Told.{Told}
pub use Rattle.hub_model.specs.Histories.{answer}
pub use Rattle.hub_model.specs.declared.entry.Entry.{Entry}
pub use Rattle.hub_core.specs.Faults.{IsFault}
pub use Rattle.hub_shared.specs.Marks.{mark, mark_count, MarksTally, IsTallyFault, MarksTallies}
pub use Rattle.hub_shared.specs.Orders.{items_of_label, Interleaves, entries_of}
pub use Rattle.hub_shared.specs.Seats.{SeatState, BookedState}
pub use Rattle.hub_shared.specs.Settling.{StandsIn, IsLater, times_told, IsRising, IsTold, IsSettleFault, entry_of}
pub use Rattle.hub_shared.specs.declared.settling.SettleFault.{SettleFault}
pub use Rattle.hub_shared.specs.declared.settling.SettleFault.TheVariants.{CountDiffers, Foreign, Earlier, Twice, OutOfOrder, Memory}
