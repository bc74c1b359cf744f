-- What the tally of a session has.
use Rattle.std.specs.Prelude.{◌≡◌, ℕ, ◌+◌, if◌then◌else◌, List, [], ◌∷◌, ◌++◌, Option, Some, None, Result, Err, slice_get}
use Rattle.taf_messages.specs.declared.reply.Reply.{Reply}
use Rattle.tallies.specs.declared.fault.HubFault.{HubFault}
use Rattle.tallies.specs.declared.fault.HubFault.TheVariants.{Memory}
use Rattle.tallies.specs.declared.tally.Told.{Told}
use Rattle.inbox.specs.declared.rule.Job.{Job}
use Rattle.session_lines.specs.declared.session.Done.{Done}
use Rattle.session_lines.specs.LockStep.{Answers}
use Rattle.session_lines.specs.States.{State}
use Rattle.session_lines.specs.Steps.{is_job_in_front, is_own, with_entry}
use Rattle.session_lines.specs.Runs.{Event, LineRead, LineReadWithoutMemory, DoneTaken, DoneTakenWithoutMemory, HeldLineTaken, Run, after_event}

-- a Done counts where a job is in front and it is the session's own
abbrev pub own_done : State → Done → List Done
own_done s d = if is_job_in_front s.slots then (if is_own s d then d ∷ [] else []) else []

abbrev pub own_done_in : State → Event → List Done
own_done_in s (LineRead line) = []
own_done_in s (LineReadWithoutMemory line) = []
own_done_in s (DoneTaken d) = own_done s d
own_done_in s (DoneTakenWithoutMemory d) = own_done s d
own_done_in s HeldLineTaken = []

-- the session's own Dones among some events, in their order
abbrev pub own_dones : Run → List Event → List Done
own_dones r [] = []
own_dones r (e ∷ events) = own_done_in r.state e ++ own_dones (after_event r e) events

-- the answer of a Done; where there is none, want of memory stands for it
abbrev pub answer_of : Option Done → Result (ℕ × Reply) HubFault
answer_of None = Err Memory
answer_of (Some d) = d.answer

-- the answers of Dones, by their places
abbrev pub answers_of : List Done → Answers
answers_of dones index = answer_of (slice_get dones index)

-- a tally with the entries of jobs whose answers these Dones are, one after another
abbrev pub tally_with : List Told → List Job → List Done → List Told
tally_with tally [] dones = tally
tally_with tally (asked ∷ jobs) [] = tally
tally_with tally (asked ∷ jobs) (d ∷ dones) =
    tally_with (with_entry tally asked.call d.answer) jobs dones

-- jobs of this session, their indices counted from this one
abbrev pub AreJobsFrom : ℕ → ℕ → List Job → Type 0
AreJobsFrom id index [] = Unit {0}
AreJobsFrom id index (asked ∷ jobs) =
    (asked.session ≡ id) × (asked.index ≡ index) × AreJobsFrom id (index + 1) jobs

-- Dones of this session, their indices counted from this one
abbrev pub AreDonesFrom : ℕ → ℕ → List Done → Type 0
AreDonesFrom id index [] = Unit {0}
AreDonesFrom id index (d ∷ dones) =
    (d.session ≡ id) × (d.index ≡ index) × AreDonesFrom id (index + 1) dones

-- Jobs and own Dones of a session are counted from 0, and its tally has the entries of those Dones and of their jobs.
pub record IsOwnTally (id : ℕ) (jobs : List Job) (dones : List Done) (tally : List Told) : Type 0 where
  pub jobs_in_order : AreJobsFrom id 0 jobs
  pub dones_in_order : AreDonesFrom id 0 dones
  pub entries : tally ≡ tally_with [] jobs dones
