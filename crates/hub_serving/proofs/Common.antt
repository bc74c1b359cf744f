-- What the proofs of this crate have in common: the names of other crates, of the standard library and of its own definitions.
pub use Rattle.std.proofs.Common.{◌≡◌, ℕ, suc, zero, ◌+◌, ◌-◌, ◌%◌, ◌<◌, ◌≤◌, false, List, [], ◌∷◌, ◌++◌, length, map, get_or, sum_by, refl, sym, ap, ◌∙◌, subst, arith, rules, Vec, vec_len, length-append}
pub use Rattle.std.proofs.lemmas.List.{length-map}
pub use Rattle.std.proofs.lemmas.List.Sums.{sum_by-cons}
pub use Rattle.std.specs.declared.alloc.Global.{Global}
pub use Rattle.log_file.specs.Crashes.{LeavesOnly}
pub use Rattle.journal.specs.Journals.{journal_past, has_failed, lines_of}
pub use Rattle.journal.specs.declared.journal.Journal.{Journal}
pub use Rattle.hub_model.specs.declared.entry.Entry.{Entry}
pub use Rattle.inbox.specs.States.{PassState, new_pass}
pub use Rattle.inbox.specs.declared.rule.Job.{Job}
pub use Rattle.session_lanes.specs.Lanes.{LaneState, new_lane, thread_pass, EachAt, EachPair, of_lane, HandsOut, TakesOnly, IsPassOf, no_inbox, lane_capacity}
pub use Rattle.session_lanes.specs.Work.{IsWorkOf}
pub use Rattle.session_lanes.specs.declared.ends.Served.{Served}
pub use Rattle.session_lanes.specs.declared.ends.SessionStart.{SessionStart}
pub use Rattle.session_lanes.proofs.FallLemmas.{of_lane-alike}
pub use Rattle.hub_shared.specs.Seats.{SeatState, IsRun}
pub use Rattle.journaled_hub.specs.declared.journaled.JournaledHub.{JournaledHub}
pub use Rattle.journaled_hub.specs.Crashes.{IsFrontOnDisk}
pub use Rattle.journaled_hub.specs.HistoryLines.{lines_of_history}
pub use Rattle.journaled_hub.specs.JournaledHubs.{history_of, journal_of, past_of}
pub use Rattle.journaled_hub.proofs.DiskLemmas.{all_durable}
pub use Rattle.journal_workers.specs.Work.{AreAnswers, HasWorked, IsReady}
pub use Rattle.journal_workers.specs.declared.worker.JournalWorker.{JournalWorker}
pub use Rattle.journal_workers.proofs.AnswerLemmas.{answers_grow}
pub use Rattle.hub_workers.specs.Counts.{WorkerState, MakesCalls, taken_lists}
pub use Rattle.hub_workers.specs.Work.{IsWorked}
pub use Rattle.hub_workers.specs.declared.worker.Worker.{Worker}
pub use Rattle.hub_workers.proofs.SeatLemmas.{sum_of_map}
pub use Rattle.hub_threads.specs.Kept.{AreKept}
pub use Rattle.hub_threads.specs.Room.{HasRoomFor}
pub use Rattle.hub_threads.specs.Served.{IsServiceOf}
pub use Rattle.hub_threads.proofs.KeptLemmas.{EachAt-map}
pub use Rattle.hub_threads.proofs.ThreadLemmas.{each_given, handed}
pub use Rattle.hub_serving.specs.JournaledHubs.{KeepsJournal, IsServedJournaledHub}
pub use Rattle.hub_serving.specs.ServedHubs.{GaveBack, IsWorkedHub, IsServedHub}
