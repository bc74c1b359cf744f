use Rattle.std.proofs.Common.{◌≡◌, ◌++◌, length}
use Rattle.journaled_hub.specs.HistoryLines.{calls_of}
use Rattle.journaled_hub.proofs.recovery.apply_calls.Given as goal

-- some are in the history, and the others come next
abbrev pub invariant-loop-call : goal.invariant-loop-call
invariant-loop-call l = calls_of l.hub ++ l.calls.items ≡ calls_of l.initial.hub ++ l.initial.calls.items

abbrev pub decreases-loop-call : goal.decreases-loop-call
decreases-loop-call l = length l.calls.items
