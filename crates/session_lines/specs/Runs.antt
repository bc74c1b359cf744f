-- Sessions over lines and Dones in any order.
use Rattle.std.specs.Prelude.{◌≡◌, ℕ, ◌+◌, ◌-◌, true, if◌then◌else◌, List, [], ◌∷◌, ◌++◌, Option, Some, None, fold}
use Rattle.tallies.specs.declared.tally.Told.{Told}
use Rattle.inbox.specs.declared.rule.Job.{Job}
use Rattle.session_lines.specs.declared.meaning.Meaning.{Meaning}
use Rattle.session_lines.specs.declared.session.Step.{Step}
use Rattle.session_lines.specs.declared.session.Step.TheVariants.{Nothing, Say, Held, Ask, Ended}
use Rattle.session_lines.specs.declared.session.Done.{Done}
use Rattle.session_lines.specs.declared.session.Slot.{Slot}
use Rattle.session_lines.specs.declared.session.Slot.TheVariants.{JobOut, HeldLine}
use Rattle.session_lines.specs.States.{State, new_state, jobs_out}
use Rattle.session_lines.specs.Texts.{answer_text}
use Rattle.session_lines.specs.Meanings.{meaning, meaning_without_memory}
use Rattle.session_lines.specs.Steps.{step_at, after_line, done_line, done_line_without_memory, is_own, is_job_in_front, after_done, front_line, after_front, with_entry}
use Rattle.session_lines.specs.LockStep.{Transcript, Answers}

-- What happens to a session: a line is read, or is read where memory is refused; a Done is taken, or is taken where the
-- memory of its line is refused (of both nothing comes where no job is in front); a held line is taken, if one is in front.
pub data Event : Type 0 where
  LineRead : List ℕ → Event
  LineReadWithoutMemory : List ℕ → Event
  DoneTaken : Done → Event
  DoneTakenWithoutMemory : Done → Event
  HeldLineTaken : Event

-- a session after some events: its state, the lines that it read, the jobs that it gave out, the lines that it said
pub record Run : Type 0 where
  pub state : State
  pub input : List (List ℕ)
  pub jobs : List Job
  pub output : List (List ℕ)

-- the job that a step gives out, and the line that it says
abbrev pub step_jobs : Step → List Job
step_jobs Nothing = []
step_jobs (Say line) = []
step_jobs Held = []
step_jobs (Ask asked) = asked ∷ []
step_jobs Ended = []

abbrev pub step_lines : Step → List (List ℕ)
step_lines Nothing = []
step_lines (Say line) = line ∷ []
step_lines Held = []
step_lines (Ask asked) = []
step_lines Ended = []

abbrev pub optional_line : Option (List ℕ) → List (List ℕ)
optional_line None = []
optional_line (Some line) = line ∷ []

-- a line is taken as one that means this
abbrev pub run_with_line : Run → List ℕ → Meaning → Run
run_with_line r line m = record {
  state = after_line r.state m;
  input = r.input ++ line ∷ [];
  jobs = r.jobs ++ step_jobs (step_at r.state m);
  output = r.output ++ step_lines (step_at r.state m);
}

-- a Done is taken, and leads to this line
abbrev pub run_with_done : Run → Done → List ℕ → Run
run_with_done r d line =
    if is_job_in_front r.state.slots
    then record r { state = after_done r.state d; output = r.output ++ line ∷ [] }
    else r

abbrev pub after_event : Run → Event → Run
after_event r (LineRead line) = run_with_line r line (meaning r.state.railway line)
after_event r (LineReadWithoutMemory line) = run_with_line r line (meaning_without_memory line)
after_event r (DoneTaken d) = run_with_done r d (done_line r.state d)
after_event r (DoneTakenWithoutMemory d) = run_with_done r d (done_line_without_memory r.state d)
after_event r HeldLineTaken = record r {
  state = after_front r.state;
  output = r.output ++ optional_line (front_line r.state.slots);
}

-- a session that begins in this state
abbrev pub new_run : State → Run
new_run s = record { state = s; input = []; jobs = []; output = [] }

abbrev pub run : Run → List Event → Run
run r events = fold after_event r events

-- a new session over some events
abbrev pub run_of : ℕ → List Event → Run
run_of id events = run (new_run (new_state id)) events

-- the index of the oldest job that is out
abbrev pub oldest_index : State → ℕ
oldest_index s = s.job_count - jobs_out s.slots

-- no memory is refused, and each Done is the session's own, with the answer of its job
abbrev pub HasOwnDones : Answers → Run → List Event → Type 0
HasOwnDones answers r [] = Unit {0}
HasOwnDones answers r (LineRead line ∷ events) =
    HasOwnDones answers (after_event r (LineRead line)) events
HasOwnDones answers r (LineReadWithoutMemory line ∷ events) = ⊥
HasOwnDones answers r (DoneTaken d ∷ events) =
    (is_job_in_front r.state.slots ≡ true) × (is_own r.state d ≡ true) × (d.answer ≡ answers d.index)
    × HasOwnDones answers (after_event r (DoneTaken d)) events
HasOwnDones answers r (DoneTakenWithoutMemory d ∷ events) = ⊥
HasOwnDones answers r (HeldLineTaken ∷ events) =
    HasOwnDones answers (after_event r HeldLineTaken) events

-- the lines of the slots from the front: the answer of a job that is out, or the line that is held
abbrev pub slot_lines : Answers → ℕ → List Slot → List (List ℕ)
slot_lines answers index [] = []
slot_lines answers index (JobOut call ∷ slots) =
    answer_text (answers index) ∷ slot_lines answers (index + 1) slots
slot_lines answers index (HeldLine line ∷ slots) = line ∷ slot_lines answers index slots

-- a tally with the answers of the jobs that are out
abbrev pub tally_with_slots : Answers → ℕ → List Told → List Slot → List Told
tally_with_slots answers index tally [] = tally
tally_with_slots answers index tally (JobOut call ∷ slots) =
    tally_with_slots answers (index + 1) (with_entry tally call (answers index)) slots
tally_with_slots answers index tally (HeldLine line ∷ slots) =
    tally_with_slots answers index tally slots

-- a run as it is once the jobs that are out have their answers, and the held lines are said
abbrev pub completed_transcript : Answers → Run → Transcript
completed_transcript answers r = record {
  railway = r.state.railway;
  jobs = r.jobs;
  output = r.output ++ slot_lines answers (oldest_index r.state) r.state.slots;
  tally = tally_with_slots answers (oldest_index r.state) r.state.tally r.state.slots;
}
