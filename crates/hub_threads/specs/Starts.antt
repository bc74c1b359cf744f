-- What the threads begin with.
use Rattle.std.specs.Prelude.{◌≡◌, ℕ, ◌%◌, ◌≤◌, List, length}
use Rattle.inbox.specs.States.{PassState}
use Rattle.session_lanes.specs.declared.ends.SessionStart.{SessionStart}
use Rattle.session_lanes.specs.Lanes.{LaneState, IsPassOf, EachAt}

-- There are 1 to 8 lanes, a worker for each, and up to 64 sessions. Worker k is one that can begin, and has a pass of lane k.
-- Session i has its number and a pass of the lane that it falls to.
pub record CanBegin {S K W : Type 0} (pass : W → PassState) (can_begin : W → Type 0)
    (lanes : List LaneState) (sessions : List (SessionStart S K)) (workers : List W) : Type 0 where
  pub some_lanes : 1 ≤ length lanes
  pub few_lanes : length lanes ≤ 8
  pub few_sessions : length sessions ≤ 64
  pub worker_count : length workers ≡ length lanes
  pub workers_are : EachAt (λ k (w : W). can_begin w × IsPassOf lanes k (pass w)) workers
  pub sessions_are : EachAt (λ i (s : SessionStart S K).
      (s.session ≡ i) × IsPassOf lanes (i % length lanes) s.pass) sessions
