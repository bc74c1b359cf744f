-- Lines in a row.
use Rattle.std.specs.Prelude.{◌≡◌, ℕ, ◌≤◌, true, List, length, take, drop, All}
use Rattle.hub_replay.specs.declared.batch.Batch.{Batch}
use Rattle.call_lines.specs.Lines.{IsNotMemory, has_no_newline}
use Rattle.hub_replay.specs.Lines.{IsTaken}

-- the place lies in the bytes, and no newline comes before it
abbrev pub IsScanned : List ℕ → ℕ → Type 0
IsScanned bytes scanned = (scanned ≤ length bytes) × (has_no_newline (take scanned bytes) ≡ true)

-- The first lines of the bytes, up to the end of one of them, say these things. Only where the bytes have no whole
-- line are there none.
pub record IsBatch (bytes : List ℕ) (batch : Batch) : Type 0 where
  pub bounds : batch.end ≤ length bytes
  pub says : IsTaken bytes batch.lines.items (drop batch.end bytes)
  pub reportable : All IsNotMemory batch.lines.items
  pub few : length batch.lines.items ≤ batch.end
  pub none : batch.end ≡ 0 → has_no_newline bytes ≡ true
