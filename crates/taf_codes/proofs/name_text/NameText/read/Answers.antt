use Rattle.taf_codes.proofs.Common.{sym, ◌∙◌, ap, ◌++◌, drop, length, replicate}
use Rattle.taf_codes.proofs.NameLemmas.{keeps_name}
use Rattle.taf_codes.proofs.name_text.NameText.read.Goals as goal

pub invariant_of-result : goal.invariant_of-result
invariant_of-result c =
    keeps_name c.as_bytes-text.result.now _ (sym c.is_name.ensures ∙ c.if-not-is_name.false) (ap (λ l. l ++ drop (length c.as_bytes-text.result.now) (replicate 20 0)) c.copy_from_slice.ensures.after)
