use Rattle.json_tokens.proofs.Common.{◌-◌, ◌≤◌, length, PlainUpTo}
use Rattle.json_tokens.proofs.scan.plain_len.Given as goal

abbrev pub invariant-loop-start : goal.invariant-loop-start
invariant-loop-start l = (l.start ≤ length l.text) × PlainUpTo l.text l.start

abbrev pub decreases-loop-start : goal.decreases-loop-start
decreases-loop-start l = length l.text - l.start
