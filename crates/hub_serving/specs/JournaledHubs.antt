-- What the threads around the hub of a journal leave.
use Rattle.std.specs.Prelude.{◌≡◌, false, List, [], ◌∷◌, length}
use Rattle.log_file.specs.Crashes.{LeavesOnly}
use Rattle.journal.specs.Journals.{journal_past, has_failed, lines_of}
use Rattle.journal.specs.declared.journal.Journal.{Journal}
use Rattle.hub_model.specs.declared.entry.Entry.{Entry}
use Rattle.inbox.specs.declared.rule.Job.{Job}
use Rattle.session_lines.specs.declared.session.Done.{Done}
use Rattle.session_lanes.specs.declared.ends.SessionStart.{SessionStart}
use Rattle.session_lanes.specs.declared.ends.Served.{Served}
use Rattle.journaled_hub.specs.declared.journaled.JournaledHub.{JournaledHub}
use Rattle.journaled_hub.specs.HistoryLines.{lines_of_history}
use Rattle.journaled_hub.specs.JournaledHubs.{history_of, past_of}
use Rattle.journaled_hub.specs.Crashes.{IsFrontOnDisk}
use Rattle.journal_workers.specs.Work.{AreAnswers}
use Rattle.hub_workers.specs.Counts.{taken_lists}
use Rattle.hub_serving.specs.ServedHubs.{IsServedHub}
use Rattle.hub_serving.specs.declared.journaled.ServedJournaledHub.{ServedJournaledHub}

-- What came to the history are the calls of the jobs that the one worker took, in their order, each with its answer. Unless a call of
-- the file failed, the journal has just the calls of the history, on the disk. A crash at any moment left a front of the history that
-- has all that was there before.
pub record KeepsJournal {F : Type 0} (began : JournaledHub F) (hub : List Entry)
    (taken : List (List Job)) (journal : Journal F) : Type 0 where
  pub jobs : List Job
  pub dones : List Done
  pub taken_are : taken ≡ jobs ∷ []
  pub answers : AreAnswers (history_of began) jobs dones hub
  pub on_disk : has_failed journal ≡ false → lines_of journal ≡ lines_of_history hub
  pub any_moment : LeavesOnly (past_of began) (journal_past journal)
      (IsFrontOnDisk (length (history_of began)) hub)

-- threads of a kind served, and one worker made their calls, on a hub that had a history
pub record IsServedJournaledHub {F S K : Type 0} (has_served : SessionStart S K → Served → Type 0)
    (sessions : List (S × K)) (began : JournaledHub F) (s : ServedJournaledHub F) : Type 0 where
  pub served : IsServedHub has_served sessions 1 s.served
  pub earlier : s.served.earlier ≡ length (history_of began)
  pub journal : KeepsJournal began s.served.hub (taken_lists served.hub.worked) s.journal
