-- How a session goes on.
use Rattle.std.specs.Prelude.{◌≡◌, ℕ, false, List, [], ◌∷◌}
use Rattle.inbox.specs.declared.rule.Job.{Job}
use Rattle.session_lines.specs.States.{State}
use Rattle.session_lines.specs.Runs.{Event, LineRead, LineReadWithoutMemory, DoneTaken, DoneTakenWithoutMemory, HeldLineTaken, Run, new_run, after_event, run}

-- lines are read only while the session has not failed
abbrev pub ReadsWhileSound : Run → List Event → Type 0
ReadsWhileSound r [] = Unit {0}
ReadsWhileSound r (LineRead line ∷ events) =
    (r.state.has_failed ≡ false) × ReadsWhileSound (after_event r (LineRead line)) events
ReadsWhileSound r (LineReadWithoutMemory line ∷ events) =
    (r.state.has_failed ≡ false) × ReadsWhileSound (after_event r (LineReadWithoutMemory line)) events
ReadsWhileSound r (DoneTaken d ∷ events) = ReadsWhileSound (after_event r (DoneTaken d)) events
ReadsWhileSound r (DoneTakenWithoutMemory d ∷ events) =
    ReadsWhileSound (after_event r (DoneTakenWithoutMemory d)) events
ReadsWhileSound r (HeldLineTaken ∷ events) = ReadsWhileSound (after_event r HeldLineTaken) events

-- By some events, the Dones among them, a session reads these lines, gives out these jobs, says
-- those lines, and is then in another state. Once it has failed it reads no line.
pub record Advances (old : State) (reads : List (List ℕ)) (jobs : List Job)
    (said : List (List ℕ)) (new : State) : Type 0 where
  pub events : List Event
  pub state_is : (run (new_run old) events).state ≡ new
  pub read_is : (run (new_run old) events).input ≡ reads
  pub jobs_is : (run (new_run old) events).jobs ≡ jobs
  pub said_is : (run (new_run old) events).output ≡ said
  pub sound : ReadsWhileSound (new_run old) events

-- it goes on without reading a line or giving out a job, and what it says is not written
abbrev pub Discards : State → State → Type 0
Discards old new = (said : List (List ℕ)) × Advances old [] [] said new
