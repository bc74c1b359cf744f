use Rattle.taf_codes.proofs.Common.{◌≡◌, ◌≤◌, ◌*◌, take, weighed_sum}
use Rattle.taf_codes.proofs.unit_digit.weighed_sum.Given as goal

abbrev pub invariant-loop-place : goal.invariant-loop-place
invariant-loop-place l = (l.sum ≡ weighed_sum (take l.place l.text)) × (l.sum ≤ 130560 * l.place)
