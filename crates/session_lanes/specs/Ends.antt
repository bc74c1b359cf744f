-- What the thread of a session gives back.
use Rattle.std.specs.Prelude.{◌≡◌, ℕ, Bool, true, false, List, [], ◌++◌, Option, Result, Ok, Err, is_ok}
use Rattle.std.specs.List.{All}
use Rattle.inbox.specs.declared.rule.Job.{Job}
use Rattle.tallies.specs.declared.tally.Told.{Told}
use Rattle.session_lines.specs.States.{State, new_state}
use Rattle.session_serving.specs.declared.fault.SessionFault.{SessionFault}
use Rattle.session_serving.specs.Serving.{traffic_of}
use Rattle.session_serving.specs.Serving as serving
use Rattle.session_lanes.specs.declared.ends.SessionEnd.{SessionEnd}
use Rattle.session_lanes.specs.declared.ends.SessionEnd.TheVariants.{Complete, Stranger, Fault}
use Rattle.session_lanes.specs.declared.ends.SessionStart.{SessionStart}
use Rattle.session_lanes.specs.declared.ends.Served.{Served}

-- how a session ended, by what serving answered and by whether the session has failed
abbrev pub end_of : Result (Unit {0}) SessionFault → Bool → SessionEnd
end_of (Ok done) true = Stranger
end_of (Ok done) false = Complete
end_of (Err fault) has_failed = Fault fault

-- what a reader still has and what a writer took, where they are known
pub record Streams : Type 0 where
  pub remaining : Option (List ℕ)
  pub written : Option (List ℕ)

abbrev pub streams_of : Option (List ℕ) → Option (List ℕ) → Streams
streams_of remaining written = record { remaining = remaining; written = written }

-- A new session of this number, which began with these streams, was served: it was given the first of the whole lines of its
-- reader, a first part of what it said was written to its writer, and its jobs were put, in order, all but the last where the
-- port failed. Its tally is this. Where serving answered Ok no slot is taken.
pub record HasEnded (session : ℕ) (began : Streams) (end : SessionEnd) (told : List Told)
    (put : List Job) : Type 0 where
  pub served : Result (Unit {0}) SessionFault
  pub state : State
  pub left : Streams
  pub serves : serving.IsServed (new_state session) state (traffic_of began.remaining began.written [])
      (traffic_of left.remaining left.written put) served
  pub end_is : end ≡ end_of served state.has_failed
  pub told_is : state.tally ≡ told
  pub none_taken : is_ok served ≡ true → state.slots ≡ []

-- by what it began with the session of this number ended, put its own jobs, and took none
pub record IsServed {S K : Type 0} (remaining : S → Option (List ℕ)) (written : K → Option (List ℕ))
    (session : ℕ) (start : SessionStart S K) (s : Served) : Type 0 where
  pub ended : HasEnded session (streams_of (remaining start.reader) (written start.writer)) s.end
      s.tally.entries s.pass.put
  pub own_jobs : All (λ (j : Job). j.session ≡ session) s.pass.put
  pub put_only : s.pass ≡ record start.pass { put = s.pass.put }

-- A session of this number by a pass and with a tally that earlier ones left: behind what these were told it was told this, behind
-- what they put it put these jobs, its own, and it took none.
pub record IsServedNext {S K : Type 0} (remaining : S → Option (List ℕ)) (written : K → Option (List ℕ))
    (start : SessionStart S K) (told : List Told) (s : Served) : Type 0 where
  pub more : List Told
  pub put : List Job
  pub ended : HasEnded start.session (streams_of (remaining start.reader) (written start.writer)) s.end
      more put
  pub own_jobs : All (λ (j : Job). j.session ≡ start.session) put
  pub told_is : s.tally.entries ≡ told ++ more
  pub pass_is : s.pass ≡ record start.pass { put = start.pass.put ++ put }

-- whatever it put behind what was put before: it ended so, and was told something behind what was told before
abbrev pub HasEndedBehind : ℕ → Streams → SessionEnd → List Told → List Job → List Told → List Job → Type 0
HasEndedBehind session began end told put told_after put_after =
    (mine : List Job) → put_after ≡ put ++ mine
    → (more : List Told) × (told_after ≡ told ++ more) × HasEnded session began end more mine
