use Rattle.wagon_number.proofs.Common.{arith}
use Rattle.wagon_number.proofs.CheckDigitLemmas.{sum_of_products}
use Rattle.wagon_number.proofs.digits.digit_behind.Goals as goal

pub returns : goal.returns
returns c = omega (arith, sum_of_products c.args.digits.now c.requires.eleven c.requires.digits)
