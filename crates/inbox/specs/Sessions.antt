-- The jobs of one session, in an inbox with one taking pass.
use Rattle.std.specs.Prelude.{◌≡◌, ◌≢◌, ℕ, ◌==◌, List, [], ◌++◌, slice_index_or}
use Rattle.std.specs.List.{All, filter}
use Rattle.inbox.specs.declared.rule.Job.{Job}
use Rattle.inbox.specs.Interleavings.{IsKept}

-- the jobs of one session, in their order
abbrev pub of_session : ℕ → List Job → List Job
of_session session jobs = filter (λ (j : Job). j.session == session) jobs

-- the list of the pass at this place
abbrev pub list_at : ℕ → List (List Job) → List Job
list_at place lists = slice_index_or lists place []

-- only the pass at this place took jobs
abbrev pub IsOnlyTaker : ℕ → List (List Job) → Type 0
IsOnlyTaker place takes = (other : ℕ) → other ≢ place → list_at other takes ≡ []

-- the pass at this place put jobs of this session alone, and no other pass put one
abbrev pub IsOnlyPutter : ℕ → ℕ → List (List Job) → Type 0
IsOnlyPutter session place puts =
    All (λ (j : Job). j.session ≡ session) (list_at place puts)
    × ((other : ℕ) → other ≢ place → of_session session (list_at other puts) ≡ [])

-- what the taking pass took of a session's jobs, and then what is left of them, is what the session's pass put, in order
abbrev pub LaneInOrder : Type 0
LaneInOrder =
    (puts takes : List (List Job)) (left : List Job) (session putter taker : ℕ)
    → IsKept puts takes left → IsOnlyTaker taker takes → IsOnlyPutter session putter puts
    → of_session session (list_at taker takes) ++ of_session session left ≡ list_at putter puts
