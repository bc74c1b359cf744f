use Rattle.taf_codes.proofs.Common.{arith, ◌∙◌}
use Rattle.taf_codes.proofs.DigitLemmas.{weighed_more}
use Rattle.taf_codes.proofs.unit_digit.weighed_sum.Goals as goal

pub loop-place-preserved : goal.loop-place-preserved
loop-place-preserved c =
    weighed_more c.args.text.now c.loop-place.place c.loop-place.sum c.from.result
    (omega arith) (omega arith) (omega arith) (c.from.ensures ∙ c.value_of.ensures) c.loop-place.invariant.0 (omega arith)
