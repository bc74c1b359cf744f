use Rattle.std.proofs.Common.{◌≡◌, ◌∙◌, ◌++◌, ◌∷◌, [], List, ℕ, ap, string_bytes, decimal}
use Rattle.std.specs.List.{join_with_byte}
use Rattle.wagon_number.specs.Digits.{text_of}
use Rattle.taf_messages.specs.declared.record.Record.{Record}
use Rattle.taf_messages.specs.Details.{stage_name, status_name}
use Rattle.wimo_report.specs.Report.{line_of, first_columns, last_columns, units_text, left_aligned, right_aligned, railway_column, place_column, time_column, minutes_late}
use Rattle.wimo_report.proofs.JoinLemmas.{whole}
use Rattle.wimo_report.proofs.line.line.Goals as goal

all_columns : (r : Record) (s s₁ s₂ s₃ : List ℕ) → s ≡ [] → s₁ ≡ s ++ join_with_byte 32 (first_columns r) → s₂ ≡ s₁ ++ (32 ∷ join_with_byte 32 (last_columns r)) → s₃ ≡ s₂ ++ units_text r.units → s₃ ≡ line_of r
unfolding line_of first_columns last_columns
all_columns r s s₁ s₂ s₃ =
    whole s s₁ s₂ s₃ (text_of r.wagon) (r.lead ∷ railway_column r.responsible ∷ decimal r.leg ∷ []) (left_aligned (stage_name r.stage))
    (place_column r.place ∷ time_column r.eta ∷ right_aligned (decimal (minutes_late r.eta r.commit)) ∷ status_name r.status ∷ []) (units_text r.units)

pub returns : goal.returns
returns c =
    let units = c.in_ok-put_units.ensures ∙ ap (λ l. string_bytes c.put_tail.new.line ++ units_text l) c.as_slice.ensures in
    all_columns c.args.shown.now _ _ _ _ c.in_ok-line.ensures.bytes c.in_ok-put_head.ensures c.in_ok-put_tail.ensures units
