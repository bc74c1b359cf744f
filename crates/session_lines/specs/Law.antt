-- The laws of sessions.
use Rattle.std.specs.Prelude.{◌≡◌, ℕ, ◌+◌, false, List, length, count_by}
use Rattle.session_lines.specs.States.{new_state, jobs_out}
use Rattle.session_lines.specs.LockStep.{Answers, lock_step}
use Rattle.session_lines.specs.Meanings.{is_answered}
use Rattle.session_lines.specs.Runs.{Event, new_run, run_of, HasOwnDones, completed_transcript}
use Rattle.session_lines.specs.Tallies.{own_dones, IsOwnTally}

-- Where no memory is refused and each Done is the session's own: the jobs given out, the lines said and those of the slots
-- behind them, and the tally with the answers of the jobs that are out, are those of the same lines in lock step.
abbrev pub WindowsAreLockStep : Type 0
WindowsAreLockStep =
    (id : ℕ) (answers : Answers) (events : List Event)
    → HasOwnDones answers (new_run (new_state id)) events
    → lock_step id answers (run_of id events).input ≡ completed_transcript answers (run_of id events)

-- Whatever happens to a session, memory that is refused and strangers among it, its tally is its own. Unless a stranger
-- came, each of its jobs has its Done or is out.
abbrev pub TalliesAreOwn : Type 0
TalliesAreOwn =
    (id : ℕ) (events : List Event)
    → IsOwnTally id (run_of id events).jobs (own_dones (new_run (new_state id)) events)
    (run_of id events).state.tally
    × ((run_of id events).state.has_failed ≡ false
    → length (own_dones (new_run (new_state id)) events) + jobs_out (run_of id events).state.slots
    ≡ length (run_of id events).jobs)

-- Whatever memory is refused, each line that is answered has one line that was said or one slot, unless a stranger came.
abbrev pub EachLineIsAnswered : Type 0
EachLineIsAnswered =
    (id : ℕ) (events : List Event) → (run_of id events).state.has_failed ≡ false
    → length (run_of id events).output + length (run_of id events).state.slots
    ≡ count_by is_answered (run_of id events).input
