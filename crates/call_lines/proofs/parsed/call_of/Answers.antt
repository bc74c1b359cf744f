use Rattle.std.proofs.Common.{◌≡◌, ◌∙◌, sym, refl, true, false, cond, Err}
use Rattle.std.specs.Str.{is_utf8}
use Rattle.std.proofs.lemmas.Str.{IsUtf8-from_is_utf8, is_utf8-from_IsUtf8}
use Rattle.serde_json.specs.Read.{read as read_json}
use Rattle.taf_messages.specs.declared.fault.RecordFault.TheVariants.{BadJson}
use Rattle.call_reader.specs.Reading.{Gives, call_read}
use Rattle.call_lines.specs.Lines.{call_in}
use Rattle.call_lines.proofs.parsed.call_of.Goals as goal

false_true : false ≡ true → ⊥
false_true e = cc

pub returns : goal.returns
unfolding call_in
returns c =
    elim (is_utf8 c.args.line.now) as (λ t. is_utf8 c.args.line.now ≡ t → Gives c.read.result (cond t (call_read (read_json c.args.line.now)) (Err BadJson))) [
      | true ↦ λ e. c.read.ensures.text (IsUtf8-from_is_utf8 c.args.line.now e)
      | false ↦ λ e. c.read.ensures.no_text (λ u. false_true (sym e ∙ is_utf8-from_IsUtf8 c.args.line.now u))
    ] refl
