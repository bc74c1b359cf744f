use Rattle.wagon_number.proofs.Common.{◌≡◌, take, number_in}
use Rattle.wagon_number.proofs.digits.number_shown.Given as goal

abbrev pub invariant-loop-digit : goal.invariant-loop-digit
invariant-loop-digit l = l.number ≡ number_in (take l.digit-index l.digit-items)
