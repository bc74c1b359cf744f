-- What is put by a pass from some state of it on.
use Rattle.std.specs.Prelude.{◌≡◌, ℕ, List, ◌++◌, drop, length}
use Rattle.std.specs.List.{All}
use Rattle.inbox.specs.declared.rule.Job.{Job}
use Rattle.inbox.specs.States.{PassState}

-- what was put by a pass since it was in this state
abbrev pub put_since : PassState → PassState → List Job
put_since began now = drop (length began.put) now.put

-- nothing else was done by it since, and what was put before is still there
abbrev pub PutsOnly : PassState → PassState → Type 0
PutsOnly began now = now ≡ record began { put = began.put ++ put_since began now }

-- by this pass a session of this number put jobs of its own behind those that were put before, and took none
pub record PutsMore (session : ℕ) (began now : PassState) : Type 0 where
  pub put : List Job
  pub own_jobs : All (λ (j : Job). j.session ≡ session) put
  pub pass_is : now ≡ record began { put = began.put ++ put }
