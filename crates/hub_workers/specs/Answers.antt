-- What the history of a hub has of the jobs of a session.
use Rattle.std.specs.Prelude.{◌≡◌, ℕ, List, slice_get, Some, Ok}
use Rattle.taf_messages.specs.declared.reply.Reply.{Reply}
use Rattle.hub_model.specs.declared.entry.Entry.{Entry}
use Rattle.inbox.specs.declared.rule.Job.{Job}
use Rattle.tallies.specs.declared.tally.Told.{Told}
use Rattle.session_lines.specs.declared.session.Done.{Done}
use Rattle.session_lanes.specs.declared.ends.SessionEnd.{SessionEnd}
use Rattle.session_lanes.specs.Ends.{Streams}
use Rattle.session_lanes.specs.Telling.{TellsOwnJobs}

-- where the answer to a job was Ok, the history has the job's call with this reply at this position
abbrev pub HasAnswers : List Entry → List Job → List Done → Type 0
HasAnswers history jobs dones =
    (k position : ℕ) (reply : Reply) (j : Job) (d : Done) → slice_get jobs k ≡ Some j
    → slice_get dones k ≡ Some d → d.answer ≡ Ok (position, reply)
    → slice_get history position ≡ Some (record { call = j.call; reply = reply })

-- a session that began and ended so tells its own jobs, and the history has their answers
pub record TellsHistory (history : List Entry) (number : ℕ) (began : Streams) (end : SessionEnd)
    (told : List Told) (put : List Job) : Type 0 where
  pub own : TellsOwnJobs number began end told put
  pub answers : HasAnswers history own.serves.jobs own.dones
