use Rattle.taf_moment.proofs.Common.{arith}
use Rattle.taf_moment.proofs.LetterLemmas.{digit_value-is, digit_value-small}
use Rattle.taf_moment.proofs.reading.two_shown.Goals as goal

pub returns-clause-value : goal.returns-clause-value
returns-clause-value c =
    omega (arith, digit_value-is c.args.tens c.requires.tens, digit_value-is c.args.ones c.requires.ones)

pub returns-clause-bound : goal.returns-clause-bound
returns-clause-bound c =
    let tens = digit_value-is c.args.tens c.requires.tens in
    let ones = digit_value-is c.args.ones c.requires.ones in
    omega (arith, digit_value-small c.args.tens c.requires.tens, digit_value-small c.args.ones c.requires.ones)
