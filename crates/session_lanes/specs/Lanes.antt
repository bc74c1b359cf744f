-- The lanes of a shift, and the sessions that put into each.
use Rattle.std.specs.Prelude.{◌≡◌, ℕ, ◌+◌, ◌*◌, ◌%◌, ◌<◌, ◌==◌, max, zero, suc, if◌then◌else◌, List, [], ◌∷◌, ◌++◌, length, slice_index_or}
use Rattle.atomic_table.specs.Seated.{TableId}
use Rattle.inbox.specs.declared.rule.Job.{Job}
use Rattle.inbox.specs.Rules.{ALL_PARTS}
use Rattle.inbox.specs.States.{PassState, new_pass}

-- which inbox a lane has, how many jobs that holds at most, the pass that the shift keeps, and the passes that came back
pub record LaneState : Type 0 where
  pub id : TableId
  pub capacity : ℕ
  pub pass : PassState
  pub back : List PassState

-- a lane as it is made
abbrev pub new_lane : TableId → ℕ → LaneState
new_lane id capacity = record {
  id = id;
  capacity = capacity;
  pass = new_pass id ALL_PARTS;
  back = [];
}

-- how many of so many sessions fall to lane k: session i falls to lane i mod lanes
abbrev pub sessions_of : ℕ → ℕ → ℕ → ℕ
sessions_of k lanes zero = 0
sessions_of k lanes (suc i) = sessions_of k lanes i + (if i % lanes == k then 1 else 0)

-- sixteen jobs for each session that falls to lane k, and one at least
abbrev pub lane_capacity : ℕ → ℕ → ℕ → ℕ
lane_capacity k lanes sessions = max 1 (16 * sessions_of k lanes sessions)

-- the pass of a thread, which has one part, with the jobs that it put and took
abbrev pub thread_pass : TableId → List Job → List Job → PassState
thread_pass id put taken = record { inbox = id; parts = 1; put = put; taken = taken }

-- the pass took jobs, and put none
abbrev pub TakesOnly : PassState → PassState → Type 0
TakesOnly old new = new ≡ record old { taken = new.taken }

-- a pass of lane k of these, as it was handed out
abbrev pub IsPassOf : List LaneState → ℕ → PassState → Type 0
IsPassOf lanes k pass = (d : LaneState) → pass ≡ new_pass (slice_index_or lanes k d).id 1

-- what stands where there is no inbox and no pass
abbrev pub no_inbox : TableId
no_inbox = record { words = 0; slots = 0; views_name = 0; atom = 0; block = 0; offset = 0; slot_names = [] }

abbrev pub no_pass : PassState
no_pass = new_pass no_inbox 0

-- each item is as P says of it and its place
abbrev pub EachAt : {X : Type 0} → (ℕ → X → Type 0) → List X → Type 0
EachAt {X} P xs = (k : ℕ) (d : X) → k < length xs → P k (slice_index_or xs k d)

-- the items at each place of two lists, which are as long, are as P says of them
abbrev pub EachPair : {X Y : Type 0} → (ℕ → X → Y → Type 0) → List X → List Y → Type 0
EachPair {X} {Y} P xs ys =
    (length ys ≡ length xs)
    × ((k : ℕ) (d : X) (e : Y) → k < length xs → P k (slice_index_or xs k d) (slice_index_or ys k e))

-- the items at the places that fall to lane k of so many, the first place being i
abbrev pub of_lane : {X : Type 0} → ℕ → ℕ → ℕ → List X → List X
of_lane k lanes i [] = []
of_lane k lanes i (x ∷ xs) =
    if i % lanes == k then x ∷ of_lane k lanes (i + 1) xs else of_lane k lanes (i + 1) xs

-- the lane handed out so many passes
pub record HandsOut (old new : LaneState) (count : ℕ) : Type 0 where
  pub id : new.id ≡ old.id
  pub capacity : new.capacity ≡ old.capacity
  pub back : new.back ≡ old.back
  pub put : new.pass.put ≡ old.pass.put
  pub taken : new.pass.taken ≡ old.pass.taken
  pub parts : new.pass.parts + count ≡ old.pass.parts

-- the lane took these passes back
pub record TakesBack (old new : LaneState) (passes : List PassState) : Type 0 where
  pub id : new.id ≡ old.id
  pub capacity : new.capacity ≡ old.capacity
  pub pass : new.pass ≡ old.pass
  pub back : new.back ≡ old.back ++ passes

-- each lane of a list, before and after
abbrev pub EachLane : (ℕ → LaneState → LaneState → Type 0) → List LaneState → List LaneState → Type 0
EachLane P old new =
    (k : ℕ) (d : LaneState) → k < length old → P k (slice_index_or old k d) (slice_index_or new k d)
