-- What the threads around a hub leave.
use Rattle.std.specs.Prelude.{◌≡◌, ℕ, ◌+◌, List, [], map, length, sum_by}
use Rattle.session_lanes.specs.declared.ends.SessionStart.{SessionStart}
use Rattle.session_lanes.specs.declared.ends.Served.{Served}
use Rattle.session_lanes.specs.Lanes.{EachAt, EachPair}
use Rattle.hub_shared.specs.Seats.{IsRun}
use Rattle.hub_threads.specs.Kept.{AreKept}
use Rattle.hub_threads.specs.Served.{IsServiceOf}
use Rattle.hub_workers.specs.Counts.{WorkerState, MakesCalls, taken_lists}
use Rattle.hub_serving.specs.declared.served.ServedHub.{ServedHub}

-- Threads gave this back: each began with a number, in their order from 0, with the reader and the writer at its place, and with a pass
-- by which nothing was put, and has served as threads of its kind do.
pub record GaveBack {S K : Type 0} (has_served : SessionStart S K → Served → Type 0)
    (sessions : List (S × K)) (served : List Served) : Type 0 where
  pub starts : List (SessionStart S K)
  pub ends_are : map (λ (s : SessionStart S K). (s.reader, s.writer)) starts ≡ sessions
  pub begin : EachAt (λ i (s : SessionStart S K). (s.session ≡ i) × (s.pass.put ≡ [])) starts
  pub each : EachPair (λ i (s : SessionStart S K) (r : Served). IsServiceOf has_served s r) starts served

-- The hub is one that a single thread could have made. Its history has the calls from before and then so many as the sum. There are an
-- end and a tally for each thread that served, and each of the workers' lanes is kept. Each worker's seat counted its calls, and these
-- numbers add up.
pub record IsWorkedHub (workers : ℕ) (served : List Served) (s : ServedHub) : Type 0 where
  pub worked : List WorkerState
  pub run : IsRun s.hub
  pub sum_is : s.earlier + s.sum ≡ length s.hub
  pub ends_are : s.ends.items ≡ map (λ (r : Served). r.end) served
  pub tallies_are : s.tallies.items ≡ map (λ (r : Served). r.tally) served
  pub kept : AreKept workers (map (λ (r : Served). r.pass.put) served) (taken_lists worked) s.left.items
  pub makes_calls : EachAt (λ k (w : WorkerState). MakesCalls w) worked
  pub calls : sum_by (λ (w : WorkerState). w.seat.count) worked ≡ s.sum
  pub faults : sum_by (λ (w : WorkerState). w.seat.refused) worked ≡ s.refused

-- threads of a kind served, and workers made their calls
pub record IsServedHub {S K : Type 0} (has_served : SessionStart S K → Served → Type 0)
    (sessions : List (S × K)) (workers : ℕ) (s : ServedHub) : Type 0 where
  pub served : List Served
  pub given : GaveBack has_served sessions served
  pub hub : IsWorkedHub workers served s
