-- What contracts see of an inbox and of a pass.
use Rattle.std.specs.Prelude.{ℕ, List, [], ◌∷◌, ◌++◌, map, None}
use Rattle.atomic_table.specs.Seated.{TableId}
use Rattle.crossbeam_queue.specs.Fifo.{Held}
use Rattle.inbox.specs.declared.rule.Job.{Job}
use Rattle.inbox.specs.declared.rule.PassJobs.{PassJobs}
use Rattle.inbox.specs.declared.rule.PassView.{PassView}
use Rattle.inbox.specs.Interleavings.{IsKept}
use Rattle.inbox.specs.Rules.{pass_jobs, pass_view, own_put, own_taken, CanHold}

-- which inbox it is, and how many jobs it holds at most
pub record InboxState : Type 0 where
  pub id : TableId
  pub capacity : ℕ

-- which inbox the pass is of, its parts, and the jobs that it put and took, oldest first
pub record PassState : Type 0 where
  pub inbox : TableId
  pub parts : ℕ
  pub put : List Job
  pub taken : List Job

-- a pass of an inbox, with so many parts, which put and took nothing
abbrev pub new_pass : TableId → ℕ → PassState
new_pass inbox parts = record { inbox = inbox; parts = parts; put = []; taken = [] }

-- a pass that put one job more
abbrev pub after_put : PassState → Job → PassState
after_put p job = record { inbox = p.inbox; parts = p.parts; put = p.put ++ job ∷ []; taken = p.taken }

-- a pass that took one job more
abbrev pub after_take : PassState → Job → PassState
after_take p job =
    record { inbox = p.inbox; parts = p.parts; put = p.put; taken = p.taken ++ job ∷ [] }

-- what a pass of an inbox is, by what the rule knows of it
abbrev pub state_of : TableId → PassView → PassState
state_of inbox v =
    record { inbox = inbox; parts = v.parts; put = own_put v.passes; taken = own_taken v.passes }

-- what a pass put and took
abbrev pub jobs_of : PassState → PassJobs
jobs_of p = pass_jobs p.put p.taken

-- what the rule knows of a pass
abbrev pub rule_view : PassState → PassView
rule_view p = pass_view p.parts (jobs_of p ∷ []) None

-- at some moment of a call by this pass the inbox held so many jobs
abbrev pub HeldSoMany : ℕ → PassState → Type 0
HeldSoMany count p = Held count (CanHold (rule_view p))

-- the queue is kept, by what these passes put and took and by what is left
abbrev pub IsKeptBy : List PassState → List Job → Type 0
IsKeptBy passes left =
    IsKept (map (λ (p : PassState). p.put) passes) (map (λ (p : PassState). p.taken) passes) left
