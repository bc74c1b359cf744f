use Rattle.json_tokens.proofs.Common.{◌≡◌, ap, sym, ◌∙◌, length, take, take_all, arith, last_under}
use Rattle.json_tokens.proofs.FlatLemmas.{last_here, last_before}
use Rattle.json_tokens.proofs.flat.last_of.Goals as goal

pub loop-i-init : goal.loop-i-init
loop-i-init c = ap (last_under c.args.name.now) (sym (take_all (length c.args.members.now) c.args.members.now (omega arith)))

pub returns-then-is_same : goal.returns-then-is_same
returns-then-is_same c =
    sym (c.loop-i.invariant ∙ last_here c.args.name.now c.args.members.now c.loop-i.i _ c.is_same.result c.loop-i-test.true c.loop-i.auto.i c.is_same.ensures c.if-is_same.true)

pub loop-i-preserved : goal.loop-i-preserved
loop-i-preserved c =
    c.loop-i.invariant ∙ last_before c.args.name.now c.args.members.now c.loop-i.i _ c.is_same.result c.loop-i-test.true c.loop-i.auto.i c.is_same.ensures c.if-is_same.false

pub returns : goal.returns
returns c =
    let none : c.loop-i.i ≡ 0 = omega arith in
    sym (c.loop-i.invariant ∙ ap (λ k. last_under c.args.name.now (take k c.args.members.now)) none)
