-- What the thread of a connection handler gives back.
use Rattle.std.specs.Prelude.{◌≡◌, ℕ, Bool, true, false, List, ◌++◌}
use Rattle.std.specs.List.{All, flat_map}
use Rattle.inbox.specs.declared.rule.Job.{Job}
use Rattle.inbox.specs.States.{PassState}
use Rattle.tallies.specs.declared.tally.Told.{Told}
use Rattle.session_serving.specs.declared.fault.SessionFault.TheVariants.{Read, Write, NoEnd, Port, Memory}
use Rattle.session_lanes.specs.declared.ends.SessionEnd.{SessionEnd}
use Rattle.session_lanes.specs.declared.ends.SessionEnd.TheVariants.{Complete, Stranger, Fault}
use Rattle.session_lanes.specs.declared.ends.SessionStart.{SessionStart}
use Rattle.session_lanes.specs.declared.ends.Served.{Served}
use Rattle.session_lanes.specs.Ends.{Streams, HasEnded}

-- a handler takes another connection after a session that ended so
abbrev pub goes_on : SessionEnd → Bool
goes_on Complete = true
goes_on Stranger = false
goes_on (Fault Read) = true
goes_on (Fault Write) = true
goes_on (Fault NoEnd) = true
goes_on (Fault Port) = false
goes_on (Fault Memory) = true

-- One session that a handler served: with which streams it began, how it ended, what it was told, and the jobs that it put.
pub record ServedSession : Type 0 where
  pub began : Streams
  pub end : SessionEnd
  pub told : List Told
  pub put : List Job

-- what is said of a session of the handler with this number
pub record IsSessionOf (number : ℕ) (s : ServedSession) : Type 0 where
  pub ended : HasEnded number s.began s.end s.told s.put
  pub own_jobs : All (λ (j : Job). j.session ≡ number) s.put

-- what the sessions were told, one after another, and what they put
abbrev pub told_of : List ServedSession → List Told
told_of sessions = flat_map (λ (s : ServedSession). s.told) sessions

abbrev pub put_of : List ServedSession → List Job
put_of sessions = flat_map (λ (s : ServedSession). s.put) sessions

-- By the pass that it began with a handler served sessions of its number, one after another: its tally is what they were told, in
-- their order, and its pass put what they put, and took nothing.
pub record IsHandler (number : ℕ) (began : PassState) (told : List Told) (pass : PassState) : Type 0 where
  pub sessions : List ServedSession
  pub each : All (IsSessionOf number) sessions
  pub told_is : told ≡ told_of sessions
  pub pass_is : pass ≡ record began { put = began.put ++ put_of sessions }

-- what the thread of a handler gives back, by what it began with
abbrev pub IsServedHandler : {A K : Type 0} → SessionStart A K → Served → Type 0
IsServedHandler start s = IsHandler start.session start.pass s.tally.entries s.pass
