-- What a session that was served tells of its own jobs.
use Rattle.std.specs.Prelude.{◌≡◌, ◌≢◌, ℕ, List, [], length, count_by, Result}
use Rattle.std.specs.List.{All}
use Rattle.std.specs.Io.KnownBytes.{IsAtEnd}
use Rattle.inbox.specs.declared.rule.Job.{Job}
use Rattle.tallies.specs.declared.tally.Told.{Told}
use Rattle.session_lines.specs.declared.session.Done.{Done}
use Rattle.session_lines.specs.declared.fault.LineFault.TheVariants.{NoMemory}
use Rattle.session_lines.specs.Texts.{line_fault_text}
use Rattle.session_lines.specs.States.{State, new_state}
use Rattle.session_lines.specs.Meanings.{is_answered}
use Rattle.session_lines.specs.LockStep.{lock_step}
use Rattle.session_lines.specs.Runs.{new_run}
use Rattle.session_lines.specs.Tallies.{IsOwnTally, own_dones, answers_of}
use Rattle.session_serving.specs.declared.fault.SessionFault.{SessionFault}
use Rattle.session_serving.specs.Serving.{traffic_of, IsServed}
use Rattle.session_lanes.specs.declared.ends.SessionEnd.{SessionEnd}
use Rattle.session_lanes.specs.declared.ends.SessionEnd.TheVariants.{Complete}
use Rattle.session_lanes.specs.Ends.{Streams}

-- A new session of this number was given the first of the whole lines of its reader, and a first part of what it said was written
-- to its writer. It put the jobs that it gave out in their order, all but the last where its port failed. Its own Dones are the
-- answers to these jobs, and its tally has those that were Ok, in the order of its lines. Where it ended well, these are the jobs
-- that it put, each has its answer, all that there was to read was read, all whole lines were given, each that is answered has one
-- line, and all that it said was written. Where it also never said that memory was refused, it said what these lines say in lock
-- step, each job with the answer of its Done.
pub record TellsOwnJobs (number : ℕ) (began : Streams) (end : SessionEnd) (told : List Told)
    (put : List Job) : Type 0 where
  pub served : Result (Unit {0}) SessionFault
  pub state : State
  pub left : Streams
  pub dones : List Done
  pub serves : IsServed (new_state number) state (traffic_of began.remaining began.written [])
      (traffic_of left.remaining left.written put) served
  pub dones_are : dones ≡ own_dones (new_run (new_state number)) serves.advances.events
  pub own : IsOwnTally number serves.jobs dones told
  pub complete : end ≡ Complete → (serves.jobs ≡ put) × (length dones ≡ length serves.jobs)
      × (serves.more ≡ []) × IsAtEnd left.remaining × (serves.left ≡ [])
      × (length serves.said ≡ count_by is_answered serves.reads)
  pub says : end ≡ Complete → All (λ line. line ≢ line_fault_text NoMemory) serves.said
      → (serves.said ≡ (lock_step number (answers_of dones) serves.reads).output)
      × (serves.jobs ≡ (lock_step number (answers_of dones) serves.reads).jobs)
