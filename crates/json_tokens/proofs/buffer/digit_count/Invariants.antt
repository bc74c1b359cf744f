use Rattle.json_tokens.proofs.Common.{◌≡◌, ◌+◌, length, decimal}
use Rattle.json_tokens.proofs.buffer.digit_count.Given as goal

abbrev pub invariant-loop-left : goal.invariant-loop-left
invariant-loop-left l = l.count + length (decimal l.left) ≡ length (decimal l.number)

abbrev pub decreases-loop-left : goal.decreases-loop-left
decreases-loop-left l = l.left
