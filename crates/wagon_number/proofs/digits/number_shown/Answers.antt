use Rattle.wagon_number.proofs.Common.{arith}
use Rattle.wagon_number.proofs.DigitLemmas.{number_in-front}
use Rattle.wagon_number.proofs.digits.number_shown.Goals as goal

pub overflow_mul-number : goal.overflow_mul-number
overflow_mul-number c = omega (arith, number_in-front c.args.digits c.loop-digit.digit-index c.requires c.loop-digit-test.true)

pub overflow_add-number : goal.overflow_add-number
overflow_add-number c = omega (arith, number_in-front c.args.digits c.loop-digit.digit-index c.requires c.loop-digit-test.true)
