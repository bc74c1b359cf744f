use Rattle.std.proofs.Common.{◌++◌, ◌∷◌, ◌∙◌, ap, string_bytes, decimal}
use Rattle.wimo_report.specs.Report.{last_columns, left_aligned, right_aligned}
use Rattle.wimo_report.proofs.JoinLemmas.{five}
use Rattle.wimo_report.proofs.line.put_tail.Goals as goal

pub returns : goal.returns
unfolding last_columns
returns c =
    let stage = c.in_ok-put_left.ensures ∙ ap (λ l. string_bytes c.args.line.now ++ (32 ∷ left_aligned l)) c.name.ensures in
    let late = c.in_ok-put_right.ensures ∙ ap (λ l. string_bytes c.put_time.new.line ++ (32 ∷ right_aligned l)) (c.format.ensures.text ∙ ap decimal c.late_by.ensures) in
    let status = c.in_ok-put.ensures ∙ ap (λ l. string_bytes c.put_right.new.line ++ (32 ∷ l)) c.name-2.ensures in
    five _ _ _ _ _ _ _ _ _ _ _ stage c.in_ok-put_place.ensures c.in_ok-put_time.ensures late status
