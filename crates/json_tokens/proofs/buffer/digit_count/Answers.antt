use Rattle.json_tokens.proofs.Common.{arith}
use Rattle.itoa.proofs.Decimal.{length_four}
use Rattle.json_tokens.proofs.DigitLemmas.{twenty_digits}
use Rattle.json_tokens.proofs.buffer.digit_count.Goals as goal

pub loop-left-preserved : goal.loop-left-preserved
loop-left-preserved c = omega (arith, c.loop-left.invariant, length_four c.loop-left.left c.loop-left-test.true c.loop-left.auto.left-fits.fits)

pub overflow_add-count : goal.overflow_add-count
overflow_add-count c = omega (arith, c.loop-left.invariant, twenty_digits c.args.number c.ranges.number.fits)

pub overflow_add-result : goal.overflow_add-result
overflow_add-result c = omega (arith, c.loop-left.invariant, c.short_digit_count.ensures, twenty_digits c.args.number c.ranges.number.fits)
