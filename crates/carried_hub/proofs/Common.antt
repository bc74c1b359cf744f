-- What the proofs of this crate have in common: the names of other crates, of the standard library and of its own definitions.
pub use Rattle.std.specs.Prelude.{All, IsTrue}
pub use Rattle.std.specs.List.{list_any, slice_get}
pub use Rattle.std.proofs.Common.{Result, Ok, Err, OnOk, arith, take, ◌<◌, ◌-◌}
pub use Rattle.std.proofs.lemmas.List.{take_all, take_more, length-drop, append_assoc, map-append, length-map}
pub use Rattle.std.proofs.lemmas.List.Elements.{All-weaker, All-append, All-filter, All-cons, All-nil, All-head, All-tail, filter-append}
pub use Rattle.std.proofs.lemmas.Option.{slice_get_within, get_or_from_slice_get}
pub use Rattle.hub_model.proofs.Common.{◌≡◌, ℕ, ◌+◌, ◌≤◌, Bool, true, false, cond, List, [], ◌∷◌, ◌++◌, length, Option, Some, None, refl, ap, ◌∙◌, sym, subst, map, filter, drop, bytes_eq, append-nil, cases_Bool, or_cases, inl, inr, zero, suc, bytes_eq-Decides, Railway, Message, Call, Send, Ask, AskUnit, Deviation, Fetch, Ack, ItemBody, HubState, state_after, IsSend}
pub use Rattle.hub_model.specs.Replies.{records_of, view}
pub use Rattle.hub_model.specs.Histories.{state_of}
pub use Rattle.hub_core.specs.Delivery.{HaveAllItems}
pub use Rattle.taf_codes.specs.Equality.{IsEquality, decides}
pub use Rattle.taf_messages.proofs.SameReplyLemmas.{items}
pub use Rattle.carry_over.specs.Names.{Names, Divide, IsOnOneSide, stays, messages_of}
pub use Rattle.carry_over.specs.Carried.{AreSameFor, ReplyAlike, OthersCanBeLeftBehind, OthersDoNotMatter}
pub use Rattle.carry_over.specs.Acknowledged.{unacknowledged}
pub use Rattle.carried_hub.specs.Carried.{IsAcknowledgement, AddAcknowledgements, HasSameItems, HaveSameItems, GoesOnWith}
pub use Rattle.hub_model.specs.declared.entry.Entry.{Entry}
pub use Rattle.closed_trips.specs.ClosedNames.{names_but}
pub use Rattle.closed_trips.specs.Closed.{AreClosed}
pub use Rattle.closed_trips.proofs.ClosedLemmas.{call_at, state_of_calls}
pub use Rattle.journaled_hub.specs.HistoryLines.{calls_of}
pub use Rattle.journaled_hub.specs.JournaledHubs.{history_of, IsJournaled, IsOnDisk}
