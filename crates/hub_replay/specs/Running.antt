-- How far a run is.
use Rattle.std.specs.Prelude.{◌≡◌, ℕ, ◌+◌, ◌<◌, ◌≤◌, ◌^◌, List, [], ◌++◌, Option, Result, Ok, Err}
use Rattle.std.specs.Io.KnownBytes.{Appends}
use Rattle.hub_model.specs.declared.entry.Entry.{Entry}
use Rattle.hub_replay.specs.declared.counts.Counts.{Counts}
use Rattle.hub_replay.specs.declared.output.Output.{Output}
use Rattle.call_lines.specs.declared.parsed.ParsedLine.{ParsedLine}
use Rattle.hub_replay.specs.declared.fault.RunFault.{RunFault}
use Rattle.hub_replay.specs.declared.fault.RunFault.TheVariants.{Read, Write, NoEnd, Memory}
use Rattle.hub_replay.specs.Outcomes.{Outcome, outcome, IsStopped}

-- All the lines are answered; what isn't written yet is pending, and has no call's reply.
pub record IsUnderway (start : Outcome) (lines : List ParsedLine) (written : List ℕ) (entries : List Entry) (pending : List ℕ) (counts : Counts) : Type 0 where
  pub sum : outcome start lines ≡ record { entries = entries; output = written ++ pending; counts = counts }
  pub complete : List ParsedLine
  pub rest : List ParsedLine
  pub split : lines ≡ complete ++ rest
  pub flushed : (outcome start complete).output ≡ written
  pub answered : (outcome start complete).entries ≡ entries

-- a number that grows with every line
abbrev pub line_total : Counts → ℕ
line_total c = c.lines + c.calls + c.faults

-- what ends a run once all is read that is asked for
abbrev pub IsLateFault : RunFault → ℕ → ℕ → Type 0
IsLateFault Read old new = ⊥
IsLateFault Write old new = new ≡ old + 1
IsLateFault NoEnd old new = ⊥
IsLateFault Memory old new = new ≡ old

-- the failures of the writer before and after: only a fault of writing comes with one
abbrev pub Blames : {T : Type 0} → Result T RunFault → ℕ → ℕ → Type 0
Blames (Ok x) old new = new ≡ old
Blames (Err fault) old new = IsLateFault fault old new

-- When each fault ends a run, by the failures of the reader and the writer before and after, and the bytes read. The
-- first call that fails ends the run, and is told as what it is.
abbrev pub ExplainsFault : RunFault → ℕ → ℕ → ℕ → ℕ → ℕ → Type 0
ExplainsFault Read r₀ r₁ w₀ w₁ n = (r₁ ≡ r₀ + 1) × (w₁ ≡ w₀) × (n < 2 ^ 40)
ExplainsFault Write r₀ r₁ w₀ w₁ n = (r₁ ≡ r₀) × (w₁ ≡ w₀ + 1) × (n ≤ 2 ^ 40)
ExplainsFault NoEnd r₀ r₁ w₀ w₁ n = (r₁ ≡ r₀) × (w₁ ≡ w₀) × (n ≡ 2 ^ 40)
ExplainsFault Memory r₀ r₁ w₀ w₁ n = (r₁ ≡ r₀) × (w₁ ≡ w₀) × (n ≤ 2 ^ 40)

-- From one state to another, by these lines.
pub record Advances (c₀ c₁ : Option (List ℕ)) (e₀ : List Entry) (o₀ : Output) (e₁ : List Entry) (o₁ : Output) (lines : List ParsedLine) : Type 0 where
  pub advances : (start : Outcome) (before : List ParsedLine) (written : List ℕ) → IsUnderway start before written e₀ o₀.pending.items o₀.counts → (w : List ℕ) × Appends c₀ c₁ w × IsUnderway start (before ++ lines) (written ++ w) e₁ o₁.pending.items o₁.counts

-- From a state to a stop among these lines.
pub record StopsWithin (c₀ c₁ : Option (List ℕ)) (e₀ : List Entry) (o₀ : Output) (e₁ : List Entry) (lines : List ParsedLine) : Type 0 where
  pub stops : (start : Outcome) (before : List ParsedLine) (written : List ℕ) → IsUnderway start before written e₀ o₀.pending.items o₀.counts → (w : List ℕ) × Appends c₀ c₁ w × IsStopped start (before ++ lines) (written ++ w) e₁

-- what is seen between two lines: the bytes that the writer took, where they are known, the history, and what is pending
pub record RunState : Type 0 where
  pub written : Option (List ℕ)
  pub entries : List Entry
  pub output : Output

abbrev pub run_state : Option (List ℕ) → List Entry → Output → RunState
run_state written entries output = record { written = written; entries = entries; output = output }

-- The lines are answered. Where there is a fault, the run has stopped among them.
abbrev pub AnswersLines : {T : Type 0} → Result T RunFault → RunState → RunState → List ParsedLine → Type 0
AnswersLines (Ok x) old new lines = Advances old.written new.written old.entries old.output new.entries new.output lines
AnswersLines (Err fault) old new lines = StopsWithin old.written new.written old.entries old.output new.entries lines

-- No line more is answered, whatever the history is: what was pending may be written.
abbrev pub AnswersNoLine : {T : Type 0} → Result T RunFault → Option (List ℕ) → Option (List ℕ) → Output → Output → Type 0
AnswersNoLine result c₀ c₁ o₀ o₁ =
    (entries : List Entry) → AnswersLines result (run_state c₀ entries o₀) (run_state c₁ entries o₁) []
