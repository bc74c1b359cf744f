-- When each fault ends a run on a hub with a journal.
use Rattle.std.specs.Prelude.{◌≡◌, ℕ, ◌≤◌, ◌^◌, Bool, true, false}
use Rattle.hub_replay.specs.Running.{IsLateFault, ExplainsFault}
use Rattle.journaled_hub.specs.declared.fault.JournaledRunFault.{JournaledRunFault}
use Rattle.journaled_hub.specs.declared.fault.JournaledRunFault.TheVariants.{Run, Journal}

-- What ends the answering of lines that were read, by whether a call of the journal's file failed, and by the failures of the
-- writer before and after: where a call of the file failed, nothing was asked of the writer.
abbrev pub IsFaultOfTurn : JournaledRunFault → Bool → ℕ → ℕ → Type 0
IsFaultOfTurn (Run fault) failed w₀ w₁ = (failed ≡ false) × IsLateFault fault w₀ w₁
IsFaultOfTurn Journal failed w₀ w₁ = (failed ≡ true) × (w₁ ≡ w₀)

-- When each fault ends a run, by whether a call of the journal's file failed, by the failures of the reader and the writer before
-- and after, and by the bytes read. The first call that fails ends the run, and is told as what it is.
abbrev pub ExplainsJournaledFault : JournaledRunFault → Bool → ℕ → ℕ → ℕ → ℕ → ℕ → Type 0
ExplainsJournaledFault (Run fault) failed r₀ r₁ w₀ w₁ n = (failed ≡ false) × ExplainsFault fault r₀ r₁ w₀ w₁ n
ExplainsJournaledFault Journal failed r₀ r₁ w₀ w₁ n = (failed ≡ true) × (r₁ ≡ r₀) × (w₁ ≡ w₀) × (n ≤ 2 ^ 40)
