use Rattle.json_tokens.proofs.Common.{◌+◌, ◌<◌, length, decimal, ap, ◌∙◌, arith, common_steps}
use Rattle.json_tokens.proofs.ScanLemmas.{digit_first, digit_next}
use Rattle.json_tokens.proofs.scan.decimal_first.Goals as goal

pub returns-then-number-eq0 : goal.returns-then-number-eq0
returns-then-number-eq0 c =
    let some : 0 < length c.args.text.now = grind (arith, common_steps) in
    digit_first c.args.text.now _ some c.in_ok-number.ensures.1 c.in_ok-number.ensures.0 ∙ ap decimal c.if-number-eq0.true

pub loop-i-init : goal.loop-i-init
loop-i-init c =
    let some : 0 < length c.args.text.now = grind (arith, common_steps) in
    (omega arith, digit_first c.args.text.now _ some c.in_ok-number.ensures.1 c.in_ok-number.ensures.0)

pub loop-i-preserved : goal.loop-i-preserved
loop-i-preserved c =
    let product = c.in_ok-checked_mul.ensures in
    let sum = c.in_ok-number-2.ensures in
    digit_next c.args.text.now c.loop-i.i c.loop-i.number c.in-Some.last _ c.loop-i-test.true c.loop-i.invariant.0 c.loop-i.invariant.1 c.in-Some.ensures.1 c.in-Some.ensures.0
    (sum.1 ∙ ap (λ k. k + c.in-Some.last) product.1) (omega arith)
