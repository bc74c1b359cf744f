-- The laws of shifts.
use Rattle.std.specs.Prelude.{◌≡◌, ℕ, ◌%◌, ◌≤◌, List, [], ◌++◌, drop, slice_index_or}
use Rattle.inbox.specs.Sessions.{of_session}
use Rattle.session_lanes.specs.Ends.{Streams}
use Rattle.session_lanes.specs.Lanes.{EachAt}
use Rattle.session_lanes.specs.Telling.{TellsOwnJobs}
use Rattle.inbox.specs.declared.rule.Job.{Job}
use Rattle.hub_model.specs.declared.entry.Entry.{Entry}
use Rattle.hub_shared.specs.Orders.{Interleaves, entries_of}
use Rattle.hub_shared.specs.Settling.{IsTold}
use Rattle.hub_workers.specs.Answers.{TellsHistory}
use Rattle.hub_workers.specs.Counts.{WorkerState}
use Rattle.hub_shifts.specs.declared.shift.Shift.{Shift}
use Rattle.hub_shifts.specs.Shifts.{SessionState, IsShift}

-- a session of a shift was given the first of the whole lines of its reader, and what it was told are the answers to its own jobs
abbrev pub TellsAsSession : ℕ → SessionState → Type 0
TellsAsSession number s = TellsOwnJobs number s.began s.end s.tally.entries s.put

-- and the history has these answers
abbrev pub TellsHistoryAsSession : List Entry → ℕ → SessionState → Type 0
TellsHistoryAsSession history number s = TellsHistory history number s.began s.end s.tally.entries s.put

-- The history has the answers of each session's jobs. Each of its entries behind those from before the shift is of one session, and
-- those of a session stand there as it was told them, in its order, each once.
pub record IsInOrder (s : Shift) (served : List SessionState) : Type 0 where
  pub sessions : EachAt (TellsHistoryAsSession s.hub) served
  pub interleaves : Interleaves (entries_of s.tallies.items) (drop s.earlier s.hub)

-- each session of a shift tells its own jobs, and where the tallies tell the history, it is in order
abbrev pub ShiftInOrder : Type 0
ShiftInOrder =
    (streams : List Streams) (workers : ℕ) (s : Shift) (shift : IsShift streams workers s)
    → EachAt TellsAsSession shift.served × (IsTold s.hub s.earlier s.tallies.items → IsInOrder s shift.served)

-- what the workers took of a session's jobs, and then what the lanes still held of them, is what the session put, in order
abbrev pub AreInOrder : ℕ → List WorkerState → List (List Job) → List SessionState → Type 0
AreInOrder workers worked left served =
    EachAt (λ i (x : SessionState). (d : WorkerState)
    → of_session i (slice_index_or worked (i % workers) d).taken
    ++ of_session i (slice_index_or left (i % workers) []) ≡ x.put) served

-- this holds of each shift, where session i falls to lane i mod workers
abbrev pub LanesInOrder : Type 0
LanesInOrder =
    (streams : List Streams) (workers : ℕ) (s : Shift) (shift : IsShift streams workers s) → 1 ≤ workers
    → AreInOrder workers shift.worked s.left.items shift.served
