use Rattle.json_tokens.proofs.Common.{◌≡◌, ◌<◌, take, decimal}
use Rattle.json_tokens.proofs.scan.decimal_first.Given as goal

-- the digits so far are the decimal of the number so far
abbrev pub invariant-loop-i : goal.invariant-loop-i
invariant-loop-i l = (0 < l.number) × (take l.i l.text ≡ decimal l.number)
