use Rattle.json_tokens.proofs.Common.{refl, subst, IsSimpleAt}
use Rattle.json_tokens.proofs.TapeReadLemmas.{taped}
use Rattle.json_tokens.proofs.tape.JsonTape.read.Goals as goal

pub invariant_of-result : goal.invariant_of-result
invariant_of-result c =
    let simple = subst (IsSimpleAt 0) c.nodes.ensures.tokens (c.if-is_simple.ensures refl) in
    record { read = (taped c.args.text.now c.in-Ok.tape c.in-Ok.ensures.ok.0 c.in-Ok.ensures.ok.1 simple).0 }

pub returns-then-is_simple : goal.returns-then-is_simple
returns-then-is_simple c =
    let simple = subst (IsSimpleAt 0) c.nodes.ensures.tokens (c.if-is_simple.ensures refl) in
    (taped c.args.text.now c.in-Ok.tape c.in-Ok.ensures.ok.0 c.in-Ok.ensures.ok.1 simple).1
