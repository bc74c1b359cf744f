use Rattle.json_tokens.proofs.Common.{◌∙◌, ap, sym, option_and_then, as_u64, number_of}
use Rattle.json_tokens.proofs.WholeLemmas.{whole_found, whole_exact, not_negative}
use Rattle.json_tokens.proofs.tape.whole.Goals as goal

pub returns-then-has_minus-clause-exact : goal.returns-then-has_minus-clause-exact
returns-then-has_minus-clause-exact c =
    not_negative c.as_bytes-bytes.result.now (sym c.if-has_minus.ensures) ∙ ap (λ s. option_and_then as_u64 (number_of s)) c.as_bytes-bytes.ensures.value

pub returns-clause-spelt : goal.returns-clause-spelt
returns-clause-spelt c = whole_found c.args.digits.now _ _ _ c.as_bytes-bytes.ensures.value c.scan.ensures.parts (sym c.if-has_minus.ensures) c.to_u64.ensures

pub returns-clause-exact : goal.returns-clause-exact
returns-clause-exact c = whole_exact c.args.digits.now _ _ _ c.as_bytes-bytes.ensures.value c.scan.ensures.parts (sym c.if-has_minus.ensures) c.to_u64.ensures
