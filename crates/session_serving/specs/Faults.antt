-- Why serving ended, by the failures of the reader, the writer and the port.
use Rattle.std.specs.Prelude.{◌≡◌, ◌⊎◌, ℕ, ◌+◌, Bool, true, false, List, [], Result, Ok, Err, OnOk, OnErr}
use Rattle.session_lines.specs.declared.session.Slot.{Slot}
use Rattle.session_serving.specs.declared.fault.SessionFault.{SessionFault}
use Rattle.session_serving.specs.declared.fault.SessionFault.TheVariants.{Read, Write, NoEnd, Port, Memory}

-- whether the session goes on
abbrev pub goes_on : Result Bool SessionFault → Bool
goes_on (Ok on) = on
goes_on (Err fault) = false

-- whether all that was said is written or pending, by the result: only a writer that fails loses some
abbrev pub writes_all : {T : Type 0} → Result T SessionFault → Bool
writes_all (Ok x) = true
writes_all (Err Read) = true
writes_all (Err Write) = false
writes_all (Err NoEnd) = true
writes_all (Err Port) = true
writes_all (Err Memory) = true

-- whether each job that was given out was sent, by the result: only a port that fails loses one
abbrev pub sends_all : {T : Type 0} → Result T SessionFault → Bool
sends_all (Ok x) = true
sends_all (Err Read) = true
sends_all (Err Write) = true
sends_all (Err NoEnd) = true
sends_all (Err Port) = false
sends_all (Err Memory) = true

-- the failures of a reader or a writer before and after a call: one more where it fails
abbrev pub CountsFailure : {T E : Type 0} → Result T E → ℕ → ℕ → Type 0
CountsFailure result old new = OnOk result (new ≡ old) × OnErr result (new ≡ old + 1)

-- the failures of a writer and of a port, before and after: each fault comes with one of its own
abbrev pub Blames : {T : Type 0} → Result T SessionFault → ℕ → ℕ → ℕ → ℕ → Type 0
Blames (Ok x) w w2 p p2 = (w2 ≡ w) × (p2 ≡ p)
Blames (Err Read) w w2 p p2 = ⊥
Blames (Err Write) w w2 p p2 = (w2 ≡ w + 1) × (p2 ≡ p)
Blames (Err NoEnd) w w2 p p2 = ⊥
Blames (Err Port) w w2 p p2 = (w2 ≡ w) × (p2 ≡ p + 1)
Blames (Err Memory) w w2 p p2 = ⊥

-- the same of a reader too, where nothing is called after a fault
abbrev pub FirstFails : Result (Unit {0}) SessionFault → ℕ → ℕ → ℕ → ℕ → ℕ → ℕ → Type 0
FirstFails (Ok x) r r2 w w2 p p2 = (r2 ≡ r) × (w2 ≡ w) × (p2 ≡ p)
FirstFails (Err Read) r r2 w w2 p p2 = (r2 ≡ r + 1) × (w2 ≡ w) × (p2 ≡ p)
FirstFails (Err Write) r r2 w w2 p p2 = (r2 ≡ r) × (w2 ≡ w + 1) × (p2 ≡ p)
FirstFails (Err NoEnd) r r2 w w2 p p2 = (r2 ≡ r) × (w2 ≡ w) × (p2 ≡ p)
FirstFails (Err Port) r r2 w w2 p p2 = (r2 ≡ r) × (w2 ≡ w) × (p2 ≡ p + 1)
FirstFails (Err Memory) r r2 w w2 p p2 = ⊥

-- how many calls of a reader, a writer and a port failed
pub record Failures : Type 0 where
  pub reader : ℕ
  pub writer : ℕ
  pub port : ℕ

abbrev pub failures_of : ℕ → ℕ → ℕ → Failures
failures_of reader writer port = record { reader = reader; writer = writer; port = port }

-- the slots were emptied, unless the port failed at that
abbrev pub IsEmptied : ℕ → ℕ → List Slot → Type 0
IsEmptied old new slots = ((new ≡ old) × (slots ≡ [])) ⊎ (new ≡ old + 1)

-- Each fault comes where its own count grew, by one. Where there was none no slot is taken, and
-- after a fault of the reader, the writer or their bytes the slots are emptied. After one of the
-- port a write may fail too.
abbrev pub Explains : Result (Unit {0}) SessionFault → Failures → Failures → List Slot → Type 0
Explains (Ok x) old new slots =
    (new.reader ≡ old.reader) × (new.writer ≡ old.writer) × (new.port ≡ old.port) × (slots ≡ [])
Explains (Err Read) old new slots =
    (new.reader ≡ old.reader + 1) × (new.writer ≡ old.writer) × IsEmptied old.port new.port slots
Explains (Err Write) old new slots =
    (new.reader ≡ old.reader) × (new.writer ≡ old.writer + 1) × IsEmptied old.port new.port slots
Explains (Err NoEnd) old new slots =
    (new.reader ≡ old.reader) × (new.writer ≡ old.writer) × IsEmptied old.port new.port slots
Explains (Err Port) old new slots =
    (new.reader ≡ old.reader) × ((new.writer ≡ old.writer) ⊎ (new.writer ≡ old.writer + 1))
    × (new.port ≡ old.port + 1)
Explains (Err Memory) old new slots =
    (new.reader ≡ old.reader) × (new.writer ≡ old.writer) × (new.port ≡ old.port)

-- what explains a fault where it came still does so after what follows, by the failures of the
-- writer and of the port
abbrev pub StillExplains : SessionFault → ℕ → ℕ → ℕ → ℕ → List Slot → Type 0
StillExplains fault w w2 p p2 slots =
    (r₀ r₁ w₀ p₀ : ℕ) → FirstFails (Err fault) r₀ r₁ w₀ w p₀ p
    → Explains (Err fault) (failures_of r₀ w₀ p₀) (failures_of r₁ w2 p2) slots
