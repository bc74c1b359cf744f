use Rattle.json_tokens.proofs.Common.{◌≡◌, ◌<◌, length, get_or, sym, ap, ◌∙◌, arith, common_steps, IsCharBoundary-after_ascii}
use Rattle.json_tokens.proofs.scan.after.Goals as goal

pub range_from-requires : goal.range_from-requires
range_from-requires c =
    let text = c.args.text.now in
    let first : get_or text 0 0 ≡ c.args.byte = ap (λ l. get_or l 0 0) (sym c.as_bytes-bytes.ensures.value) ∙ c.if-bytes-byte.false in
    let some : 0 < length text = grind (arith, common_steps) in
    λ _. IsCharBoundary-after_ascii text 0 c.utf8.text some (omega (arith, first, c.requires))
