-- What the proofs of this crate have in common: the names of other crates, of the standard library and of its own definitions.
pub use Rattle.std.specs.List.{All}
pub use Rattle.std.specs.Prelude.{zip}
pub use Rattle.std.proofs.Common.{◌≡◌, ℕ, ◌+◌, ◌<◌, List, length, map, get_or, sym, ap, ◌∙◌, subst, arith, Option}
pub use Rattle.std.proofs.lemmas.List.{length-map}
pub use Rattle.std.proofs.lemmas.Slice.Zip.{get_or-zip, firsts-zip, seconds-zip}
pub use Rattle.inbox.specs.declared.rule.Job.{Job}
pub use Rattle.tallies.specs.Tallies.{TallyState}
pub use Rattle.session_lanes.specs.Ends.{Streams, streams_of, IsServed}
pub use Rattle.session_lanes.specs.Lanes.{EachAt}
pub use Rattle.session_lanes.specs.declared.ends.Served.{Served}
pub use Rattle.session_lanes.specs.declared.ends.SessionStart.{SessionStart}
pub use Rattle.session_lanes.proofs.TellingLemmas.{tells_own}
pub use Rattle.hub_shared.specs.Settling.{StandsIn, IsTold}
pub use Rattle.hub_shared.proofs.OrderLemmas.{told_in_order}
pub use Rattle.journaled_hub.specs.declared.journaled.JournaledHub.{JournaledHub}
pub use Rattle.hub_threads.specs.Kept.{AreKept}
pub use Rattle.hub_threads.proofs.KeptLemmas.{EachAt-map, each_of_map}
pub use Rattle.hub_threads.proofs.OrderLemmas.{each_in_order}
pub use Rattle.hub_workers.specs.Counts.{WorkerState, taken_lists}
pub use Rattle.hub_workers.proofs.AnswerLemmas.{tells_history}
pub use Rattle.hub_serving.specs.JournaledHubs.{IsServedJournaledHub}
pub use Rattle.hub_serving.specs.ServedHubs.{IsServedHub}
pub use Rattle.hub_serving.specs.declared.journaled.ServedJournaledHub.{ServedJournaledHub}
pub use Rattle.hub_serving.specs.declared.served.ServedHub.{ServedHub}
pub use Rattle.hub_shifts.specs.JournaledShifts.{IsJournaledShift}
pub use Rattle.hub_shifts.specs.Laws.{IsInOrder, ShiftInOrder, LanesInOrder}
pub use Rattle.hub_shifts.specs.Shifts.{shift_of, SessionState, IsOfSession, put_lists, IsShift}
pub use Rattle.hub_shifts.specs.declared.shift.Shift.{Shift}
