-- What closed lanes held.
use Rattle.std.specs.Prelude.{◌≡◌, ℕ, List, [], ◌∷◌, ◌++◌, map, length, slice_index_or}
use Rattle.inbox.specs.declared.rule.Job.{Job}
use Rattle.inbox.specs.Interleavings.{IsKept}
use Rattle.session_lanes.specs.Lanes.{EachAt, of_lane}

-- Lane k is kept, by what the threads that fall to it put, what its worker took, and what it still held. A thread that serves takes
-- nothing, a worker puts nothing, and the pass that was kept for the end, the last, does neither.
abbrev pub LaneIsKept : ℕ → ℕ → List (List Job) → List Job → List Job → Type 0
LaneIsKept k lanes puts taken left =
    IsKept (of_lane k lanes 0 puts ++ [] ∷ [] ∷ [])
    (map (λ (p : List Job). []) (of_lane k lanes 0 puts) ++ taken ∷ [] ∷ []) left

-- so is each of these lanes, by what the threads put, what its worker took and what it still held
pub record AreKept (lanes : ℕ) (puts taken left : List (List Job)) : Type 0 where
  pub taken_count : length taken ≡ lanes
  pub left_count : length left ≡ lanes
  pub each : EachAt (λ k (jobs : List Job). LaneIsKept k lanes puts jobs (slice_index_or left k [])) taken
