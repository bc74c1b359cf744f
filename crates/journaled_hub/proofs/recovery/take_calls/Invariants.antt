use Rattle.std.proofs.Common.{◌+◌, ◌-◌, ℕ, Bool, true, false}
use Rattle.std.specs.Prelude.{◌^◌}
use Rattle.journal.specs.Journals.{whole_len}
use Rattle.journaled_hub.specs.CallBatches.{has_text, IsAhead}
use Rattle.journaled_hub.proofs.recovery.take_calls.Given as goal

-- the calls of the batch come next, and then those of what the reader gave
abbrev pub invariant-batches : goal.invariant-batches
invariant-batches g l = IsAhead l.reader l.given l.hub l.lists.batch

-- one step more while batches may follow
abbrev step_left : Bool → ℕ
step_left true = 1
step_left false = 0

abbrev pub decreases-batches : goal.decreases-batches
decreases-batches g l = 2 ^ 40 - whole_len l.reader + step_left (has_text l.given)
