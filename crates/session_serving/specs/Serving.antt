-- What a session does between a reader, a writer and a port.
use Rattle.std.specs.Prelude.{◌≡◌, ℕ, ◌≤◌, Bool, true, false, List, [], ◌++◌, length, Option, None, Result, Err, is_ok, OnOk, IfOk}
use Rattle.std.specs.Io.KnownBytes.{Appends, Consumes, IsAtEnd}
use Rattle.inbox.specs.declared.rule.Job.{Job}
use Rattle.session_lines.specs.States.{State}
use Rattle.session_lines.specs.Steps.{front_line}
use Rattle.session_serving.specs.Bytes.{text, whole_lines}
use Rattle.session_serving.specs.Advances.{Advances}
use Rattle.session_serving.specs.Output.{output_of, Writes}
use Rattle.session_serving.specs.Faults.{goes_on, sends_all, writes_all}
use Rattle.session_serving.specs.declared.fault.SessionFault.{SessionFault}
use Rattle.session_serving.specs.declared.fault.SessionFault.TheVariants.{NoEnd}

-- the session may be given a line: it has not failed, and no line that was held is in front
abbrev pub IsReady : State → Type 0
IsReady s = (front_line s.slots ≡ None) × (s.has_failed ≡ false)

-- it is ready, or it is over: it has failed, and no slot is taken
abbrev pub IsReadyOrOver : Result Bool SessionFault → State → Type 0
IsReadyOrOver result s =
    (goes_on result ≡ true → IsReady s) × IfOk result (λ on. on ≡ false → (s.has_failed ≡ true) × (s.slots ≡ []))

-- no slot is taken, and it goes on unless it has failed
abbrev pub IsIdleOrOver : Result Bool SessionFault → State → Type 0
IsIdleOrOver result s =
    OnOk result (s.slots ≡ []) × (goes_on result ≡ true → s.has_failed ≡ false)
    × IfOk result (λ on. on ≡ false → s.has_failed ≡ true)

-- these jobs were sent behind those before, in order; the last may be lost, unless `all` were sent
pub record Sends (old new : List Job) (all : Bool) (jobs : List Job) : Type 0 where
  pub lost : List Job
  pub parts : new ++ lost ≡ old ++ jobs
  pub few : length lost ≤ 1
  pub none : all ≡ true → lost ≡ []

-- a session with what its writer and its port took, and what is still to be written
pub record Exchange : Type 0 where
  pub state : State
  pub written : Option (List ℕ)
  pub pending : List ℕ
  pub sent : List Job

abbrev pub exchange_of : State → Option (List ℕ) → List ℕ → List Job → Exchange
exchange_of state written pending sent = record {
  state = state;
  written = written;
  pending = pending;
  sent = sent;
}

-- the session goes on with these lines read; what it says is written or pending, and what it gives
-- out is sent
pub record Serves (old : Exchange) (reads : List (List ℕ)) (new : Exchange)
    (full all : Bool) : Type 0 where
  pub said : List (List ℕ)
  pub jobs : List Job
  pub advances : Advances old.state reads jobs said new.state
  pub writes : Writes (output_of old.written old.pending) (output_of new.written new.pending) full
      (text said)
  pub sends : Sends old.sent new.sent all jobs

-- what was served up to a fault is served still after what follows, with no line more
abbrev pub StillServes : SessionFault → Exchange → Exchange → Type 0
StillServes fault old new =
    (begun : Exchange) (reads : List (List ℕ))
    → Serves begun reads old (writes_all {T = Unit {0}} (Err fault))
    (sends_all {T = Unit {0}} (Err fault))
    → Serves begun reads new false (sends_all {T = Unit {0}} (Err fault))

-- the session is given the first of some whole lines, all of them where it goes on
pub record ServesFirst (old : Exchange) (lines : List (List ℕ)) (new : Exchange)
    (full all on : Bool) : Type 0 where
  pub reads : List (List ℕ)
  pub more : List (List ℕ)
  pub parts : reads ++ more ≡ lines
  pub serves : Serves old reads new full all
  pub each : on ≡ true → more ≡ []

-- Bytes were read, and the session was given the first of their whole lines; where it ended well
-- and no stranger came, all that there was to read was read and all whole lines were given.
pub record ReadsLines (old : Exchange) (before after : Option (List ℕ)) (new : Exchange)
    (result : Result (Unit {0}) SessionFault) : Type 0 where
  pub bytes : List ℕ
  pub reads : List (List ℕ)
  pub more : List (List ℕ)
  pub consumed : Consumes before after bytes
  pub given : reads ++ more ≡ whole_lines bytes
  pub serves : Serves old reads new (writes_all result) (sends_all result)
  pub all : is_ok result ≡ true → new.state.has_failed ≡ false → (more ≡ []) × IsAtEnd after
  pub few : length bytes ≤ 1099511627776
  pub no_end : result ≡ Err NoEnd → length bytes ≡ 1099511627776

-- the bytes that a reader still has and that a writer took, where they are known, and the jobs that
-- a port took
pub record Traffic : Type 0 where
  pub remaining : Option (List ℕ)
  pub written : Option (List ℕ)
  pub sent : List Job

abbrev pub traffic_of : Option (List ℕ) → Option (List ℕ) → List Job → Traffic
traffic_of remaining written sent = record {
  remaining = remaining;
  written = written;
  sent = sent;
}

-- Bytes were read, and the session was given the first of their whole lines, in order. A front of
-- what it said was written, each line with its newline. The jobs that it gave out were sent, in
-- order, but for the last one where the port failed. Where it came to its end, all that it said was
-- written and, unless a stranger came, all that there was to read was read and all whole lines were
-- given. At most 2^40 bytes are read, and NoEnd comes after exactly so many.
pub record IsServed (old new : State) (before after : Traffic)
    (result : Result (Unit {0}) SessionFault) : Type 0 where
  pub bytes : List ℕ
  pub reads : List (List ℕ)
  pub more : List (List ℕ)
  pub said : List (List ℕ)
  pub jobs : List Job
  pub front : List ℕ
  pub left : List ℕ
  pub consumed : Consumes before.remaining after.remaining bytes
  pub given : reads ++ more ≡ whole_lines bytes
  pub advances : Advances old reads jobs said new
  pub written : Appends before.written after.written front
  pub parts : front ++ left ≡ text said
  pub sends : Sends before.sent after.sent (sends_all result) jobs
  pub whole : is_ok result ≡ true → left ≡ []
  pub all : is_ok result ≡ true → new.has_failed ≡ false → (more ≡ []) × IsAtEnd after.remaining
  pub few : length bytes ≤ 1099511627776
  pub no_end : result ≡ Err NoEnd → length bytes ≡ 1099511627776
