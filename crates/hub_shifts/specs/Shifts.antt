-- What a shift leaves.
use Rattle.std.specs.Prelude.{◌≡◌, ℕ, ◌+◌, List, map, length, sum_by}
use Rattle.std.specs.List.{All}
use Rattle.inbox.specs.declared.rule.Job.{Job}
use Rattle.tallies.specs.Tallies.{TallyState}
use Rattle.session_lanes.specs.declared.ends.SessionEnd.{SessionEnd}
use Rattle.session_lanes.specs.Lanes.{EachAt}
use Rattle.session_lanes.specs.Ends.{Streams, HasEnded}
use Rattle.hub_shared.specs.Seats.{IsRun}
use Rattle.hub_threads.specs.Kept.{AreKept}
use Rattle.hub_workers.specs.Counts.{WorkerState, MakesCalls, taken_lists}
use Rattle.hub_serving.specs.declared.served.ServedHub.{ServedHub}
use Rattle.hub_shifts.specs.declared.shift.Shift.{Shift}

-- the shift whose sessions were the threads that served around this hub
abbrev pub shift_of : ServedHub → Shift
shift_of s = record {
  hub = s.hub;
  earlier = s.earlier;
  sum = s.sum;
  refused = s.refused;
  ends = s.ends;
  tallies = s.tallies;
  left = s.left;
}

-- with which streams a session began, how it ended, its tally, and the jobs that it put into its lane
pub record SessionState : Type 0 where
  pub began : Streams
  pub end : SessionEnd
  pub tally : TallyState
  pub put : List Job

-- what is said of the session with this number
pub record IsOfSession (number : ℕ) (s : SessionState) : Type 0 where
  pub ended : HasEnded number s.began s.end s.tally.entries s.put
  pub own_jobs : All (λ (j : Job). j.session ≡ number) s.put

abbrev pub put_lists : List SessionState → List (List Job)
put_lists sessions = map (λ (s : SessionState). s.put) sessions

-- These sessions were served by so many lanes. There are a tally and an end for each session, in the order of the sessions'
-- streams, which are that session's. Each lane is kept, by what its worker took and by what it still held.
pub record IsServedByLanes (streams : List Streams) (workers : ℕ) (served : List SessionState)
    (taken : List (List Job)) (ends : List SessionEnd) (tallies : List TallyState)
    (left : List (List Job)) : Type 0 where
  pub streams_are : map (λ (x : SessionState). x.began) served ≡ streams
  pub ends_are : ends ≡ map (λ (x : SessionState). x.end) served
  pub tallies_are : tallies ≡ map (λ (x : SessionState). x.tally) served
  pub of_sessions : EachAt IsOfSession served
  pub kept : AreKept workers (put_lists served) taken left

-- The hub is one that a single thread could have made. Its history has the calls from before the shift and
-- then so many as the sum. The sessions were served by the lanes of the workers. Each worker's seat counted its calls, and these
-- numbers add up.
pub record IsShift (streams : List Streams) (workers : ℕ) (s : Shift) : Type 0 where
  pub served : List SessionState
  pub worked : List WorkerState
  pub run : IsRun s.hub
  pub sum_is : s.earlier + s.sum ≡ length s.hub
  pub by_lanes : IsServedByLanes streams workers served (taken_lists worked) s.ends.items
      s.tallies.items s.left.items
  pub makes_calls : EachAt (λ k (w : WorkerState). MakesCalls w) worked
  pub calls : sum_by (λ (w : WorkerState). w.seat.count) worked ≡ s.sum
  pub faults : sum_by (λ (w : WorkerState). w.seat.refused) worked ≡ s.refused
