use Rattle.std.proofs.Common.{◌++◌, ◌∷◌, ◌∙◌, ap, string_bytes, decimal}
use Rattle.wimo_report.specs.Report.{first_columns}
use Rattle.wimo_report.proofs.JoinLemmas.{four}
use Rattle.wimo_report.proofs.line.put_head.Goals as goal

pub returns : goal.returns
unfolding first_columns
returns c =
    let wagon = c.in_ok-push_str.ensures.bytes ∙ ap (λ l. string_bytes c.args.line.now ++ l) (c.as_str.ensures ∙ c.text-wagon.ensures.value) in
    let lead = c.in_ok-put.ensures ∙ ap (λ l. string_bytes c.push_str.new.self ++ (32 ∷ l)) c.as_str-2.ensures.text in
    let leg = c.in_ok-put-2.ensures ∙ ap (λ l. string_bytes c.put_railway.new.line ++ (32 ∷ l)) (c.format.ensures.text ∙ ap decimal c.get.ensures.value) in
    four _ _ _ _ _ _ _ _ _ wagon lead c.in_ok-put_railway.ensures leg
