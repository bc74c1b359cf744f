use Rattle.wagon_number.proofs.Common.{arith}
use Rattle.wagon_number.proofs.CheckDigitLemmas.{doubled_at}
use Rattle.wagon_number.proofs.digits.doubled.Goals as goal

pub returns-clause-value : goal.returns-clause-value
returns-clause-value c = rw c.from.ensures (doubled_at c.args.digit c.requires)

pub returns-clause-bound : goal.returns-clause-bound
returns-clause-bound c = omega (arith, returns-clause-value c)
