-- What the worker of a shift with a journal makes of jobs.
use Rattle.std.specs.Prelude.{◌≡◌, ℕ, ◌+◌, ◌<◌, ◌≤◌, ◌^◌, false, List, [], ◌∷◌, ◌++◌, length, Result, Ok, Err}
use Rattle.std.specs.VecDeque.{deque_capacity}
use Rattle.log_file.specs.Crashes.{LeavesOnly}
use Rattle.taf_messages.specs.declared.call.Call.{Call}
use Rattle.taf_messages.specs.declared.reply.Reply.{Reply}
use Rattle.tallies.specs.declared.fault.HubFault.{HubFault}
use Rattle.hub_model.specs.declared.entry.Entry.{Entry}
use Rattle.hub_model.specs.Histories.{answer}
use Rattle.inbox.specs.declared.rule.Job.{Job}
use Rattle.session_lines.specs.declared.session.Done.{Done}
use Rattle.journaled_hub.specs.Crashes.{IsFrontOnDisk}
use Rattle.journaled_hub.specs.JournaledHubs.{history_of, journal_of, past_of, has_failed, IsJournaled, IsOnDisk}
use Rattle.journaled_hub.specs.OpenFaults.{HandsBack}
use Rattle.journal_workers.specs.declared.worker.JournalWorker.{JournalWorker}

-- ---- answers

-- what a call comes to that finds this history, and the history after it
abbrev pub IsStep : List Entry → Call → Result (ℕ × Reply) HubFault → List Entry → Type 0
IsStep before call (Ok answered) after =
    (answered.0 ≡ length before) × (answered.1 ≡ answer before call)
    × (after ≡ before ++ record { call = call; reply = answered.1 } ∷ [])
IsStep before call (Err fault) after = HandsBack fault call (length before) × (after ≡ before)

-- the answer to a job
abbrev pub IsAnswerTo : List Entry → Job → Done → List Entry → Type 0
IsAnswerTo before job done after =
    (done.session ≡ job.session) × (done.index ≡ job.index) × IsStep before job.call done.answer after

-- the answers to jobs, one after another
abbrev pub AreAnswers : List Entry → List Job → List Done → List Entry → Type 0
AreAnswers before [] [] after = after ≡ before
AreAnswers before (job ∷ jobs) (done ∷ dones) after =
    (next : List Entry) × IsAnswerTo before job done next × AreAnswers next jobs dones after
AreAnswers before _ _ after = ⊥

-- ---- the worker

-- it keeps no answer, and has room for those of a batch
pub record HasRoom {F : Type 0} (w : JournalWorker F) : Type 0 where
  pub empty : w.dones.items ≡ []
  pub room : 1024 ≤ deque_capacity w.dones

-- so it may take a batch: all calls of its hub are on the disk
pub record IsReady {F : Type 0} (w : JournalWorker F) : Type 0 where
  pub on_disk : IsOnDisk w.hub
  pub room : HasRoom w

-- the answers that it keeps are those to jobs whose calls are in the history, all of which is on the disk
pub record MayAnswer {F : Type 0} (w : JournalWorker F) : Type 0 where
  pub before : List Entry
  pub jobs : List Job
  pub answers : AreAnswers before jobs w.dones.items (history_of w.hub)
  pub on_disk : IsOnDisk w.hub

-- It made the calls of this job, which it had taken, and of those that it took behind it, and keeps their answers. Nothing was done
-- with the journal's file.
pub record HasMadeCalls {F : Type 0} (first : Job) (began w : JournalWorker F) : Type 0 where
  pub rest : List Job
  pub took_only : w.pass ≡ record began.pass { taken = began.pass.taken ++ rest }
  pub answers : AreAnswers (history_of began.hub) (first ∷ rest) w.dones.items (history_of w.hub)
  pub journaled : IsJournaled w.hub
  pub journal : journal_of w.hub ≡ journal_of began.hub
  pub room : deque_capacity w.dones ≡ deque_capacity began.dones
  pub counted : w.refused < 2 ^ 60
      → length (history_of w.hub) + w.refused ≡ length (history_of began.hub) + began.refused + length (first ∷ rest)
  pub before : w.refused < 2 ^ 60 → began.refused < 2 ^ 60

-- It took jobs, and put none. Its history grew by their calls, each of which has its answer. Unless a call of the file failed, all of
-- the history is on the disk. A crash at any moment leaves a front of it that has at least what was there at the beginning. While it
-- counts faults, each job is an entry or a fault.
pub record HasWorked {F : Type 0} (began w : JournalWorker F) : Type 0 where
  pub jobs : List Job
  pub dones : List Done
  pub took_only : w.pass ≡ record began.pass { taken = began.pass.taken ++ jobs }
  pub answers : AreAnswers (history_of began.hub) jobs dones (history_of w.hub)
  pub on_disk : has_failed w.hub ≡ false → IsOnDisk w.hub
  pub any_moment : LeavesOnly (past_of began.hub) (past_of w.hub)
      (IsFrontOnDisk (length (history_of began.hub)) (history_of w.hub))
  pub counted : w.refused < 2 ^ 60
      → length (history_of w.hub) + w.refused ≡ length (history_of began.hub) + began.refused + length jobs
  pub before : w.refused < 2 ^ 60 → began.refused < 2 ^ 60
