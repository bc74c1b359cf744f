-- What the proofs of this crate have in common: the names of other crates, of the standard library and of its own definitions.
pub use Rattle.std.specs.List.{All, flat_map}
pub use Rattle.std.proofs.Common.{◌≡◌, ℕ, suc, zero, ◌+◌, ◌-◌, ◌<◌, eqb, eq-eqb, ne_eqb, cond, List, [], ◌∷◌, ◌++◌, length, map, get_or, set, drop, refl, sym, ap, ◌∙◌, subst, arith, length-append}
pub use Rattle.std.proofs.lemmas.List.{get_or_append_left, get_or-append-add, set-append_left, set-append_right, get_or-set_same, get_or-set_other, map-set, length-map, map-append}
pub use Rattle.std.proofs.lemmas.List.Elements.{All-nil, All-cons, All-weaker}
pub use Rattle.tallies.specs.Tallies.{TallyState}
pub use Rattle.tallies.specs.declared.tally.Told.{Told}
pub use Rattle.session_lanes.specs.Lanes.{EachAt}
pub use Rattle.session_lanes.specs.declared.ends.Served.{Served}
pub use Rattle.session_lanes.specs.declared.ends.SessionStart.{SessionStart}
pub use Rattle.session_lanes.proofs.TellingLemmas.{tells_own}
pub use Rattle.connection_handlers.specs.Handlers.{ServedSession, IsSessionOf, told_of, put_of, IsHandler, IsServedHandler}
pub use Rattle.connection_handlers.proofs.HandlerLemmas.{own_of_sessions, puts}
pub use Rattle.hub_model.specs.declared.entry.Entry.{Entry}
pub use Rattle.hub_shared.specs.Orders.{Interleaves, items_of_label, entries_of}
pub use Rattle.hub_shared.specs.Settling.{entry_of, StandsIn, IsTold}
pub use Rattle.hub_shared.proofs.OrderLemmas.{told_in_order}
pub use Rattle.hub_threads.specs.Kept.{AreKept}
pub use Rattle.hub_threads.proofs.KeptLemmas.{each_of_map, read_map}
pub use Rattle.hub_threads.proofs.OrderLemmas.{Of, each_in_order}
pub use Rattle.hub_workers.specs.Counts.{WorkerState, taken_lists}
pub use Rattle.hub_workers.proofs.AnswerLemmas.{first_all, rest_all, tells_history}
pub use Rattle.journaled_hub.specs.declared.journaled.JournaledHub.{JournaledHub}
pub use Rattle.hub_serving.specs.JournaledHubs.{IsServedJournaledHub}
pub use Rattle.hub_serving.specs.ServedHubs.{IsServedHub}
pub use Rattle.hub_serving.specs.declared.journaled.ServedJournaledHub.{ServedJournaledHub}
pub use Rattle.hub_serving.specs.declared.served.ServedHub.{ServedHub}
pub use Rattle.hub_service.specs.JournaledServices.{IsJournaledService}
pub use Rattle.hub_service.specs.Laws.{TellsAsSession, entries_told, entries_of_handler, entries_of_sessions, IsInOrder, SessionsInOrder, HandlersInOrder}
pub use Rattle.hub_service.specs.Services.{HandlerState, IsOfHandler, put_lists, service_of, IsService}
pub use Rattle.hub_service.specs.declared.service.Service.{Service}
