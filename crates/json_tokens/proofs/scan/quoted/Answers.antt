use Rattle.json_tokens.proofs.Common.{◌≡◌, get_or, sym, ap, subst, take, ◌-◌, ◌∙◌, IsUtf8, arith, IsCharBoundary-after_ascii, PlainUpTo}
use Rattle.json_tokens.proofs.ScanLemmas.{quoted_first}
use Rattle.json_tokens.proofs.scan.quoted.Goals as goal

pub range_from-requires : goal.range_from-requires
range_from-requires c =
    let inside = c.in_ok-inside.inside.now in
    let quote : get_or inside c.plain_len-end.result 0 ≡ 34 = ap (λ l. get_or l c.plain_len-end.result 0) (sym c.as_bytes-then-end-inside.ensures.value) ∙ c.if-as_bytes-end-eq34.true in
    λ _. IsCharBoundary-after_ascii inside c.plain_len-end.result (subst IsUtf8 c.as_bytes.ensures.value c.as_bytes.ensures.utf8) (omega arith) (omega (arith, quote))

pub returns-then-as_bytes-end-eq34 : goal.returns-then-as_bytes-end-eq34
returns-then-as_bytes-end-eq34 c =
    let inside = c.in_ok-inside.inside.now in
    let end = c.plain_len-end.result in
    let quote : get_or inside end 0 ≡ 34 = ap (λ l. get_or l end 0) (sym c.as_bytes-then-end-inside.ensures.value) ∙ c.if-as_bytes-end-eq34.true in
    let plain : PlainUpTo inside end = subst (λ l. PlainUpTo l end) c.as_bytes.ensures.value c.plain_len-end.ensures.plain in
    let same : end - 0 ≡ end = omega arith in
    quoted_first c.args.text.now inside c.range.result.now c.range_from.result.now end c.in_ok-inside.ensures plain (omega arith) quote (c.range.ensures.value ∙ ap (λ k. take k inside) same) c.range_from.ensures.value
