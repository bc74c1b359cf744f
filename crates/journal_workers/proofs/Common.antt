-- What the proofs of this crate have in common: the names of other crates, of the standard library and of its own definitions.
pub use Rattle.std.proofs.Common.{◌≡◌, ℕ, ◌+◌, ◌<◌, ◌≤◌, ◌^◌, List, [], ◌∷◌, ◌++◌, length, refl, sym, ap, ◌∙◌, subst, arith, append_assoc, append-nil, length-append, ◌⊎◌, Result, Ok, Err, false}
pub use Rattle.log_file.specs.Crashes.{LeavesOnly}
pub use Rattle.journal.specs.Lines.{StandsFor}
pub use Rattle.taf_messages.specs.declared.call.Call.{Call}
pub use Rattle.taf_messages.specs.declared.reply.Reply.{Reply}
pub use Rattle.tallies.specs.declared.fault.HubFault.{HubFault}
pub use Rattle.hub_model.specs.declared.entry.Entry.{Entry}
pub use Rattle.inbox.specs.States.{PassState}
pub use Rattle.inbox.specs.declared.rule.Job.{Job}
pub use Rattle.session_lines.specs.declared.session.Done.{Done}
pub use Rattle.journaled_hub.specs.HistoryLines.{lines_of_history}
pub use Rattle.journaled_hub.specs.JournaledHubs.{history_of, journal_of, past_of, has_failed, durable_lines, IsOnDisk}
pub use Rattle.journaled_hub.specs.declared.journaled.JournaledHub.{JournaledHub}
pub use Rattle.journal_workers.specs.declared.worker.JournalWorker.{JournalWorker}
pub use Rattle.journal_workers.specs.Work.{IsStep, IsAnswerTo, AreAnswers, HasMadeCalls, HasWorked}
