use Rattle.std.proofs.Common.{◌≡◌, List, [], ◌∷◌, ℕ, refl, ap, subst, ◌∙◌, map, string_bytes, IfOk}
use Rattle.std.specs.List.{AllZip}
use Rattle.rayon.proofs.ToStd.{slice-AllZip}
use Rattle.taf_messages.specs.declared.record.Record.{Record}
use Rattle.wimo_report.specs.Report.{line_of}
use Rattle.wimo_report.proofs.MadeLemmas.{if_ok, made}
use Rattle.wimo_report.proofs.report.parallel_lines.Goals as goal

-- lines that were made apart are the lines of the list
lined : {S : Type 0} (bytes : S → List ℕ) (rows : List Record) (ys : List S) → AllZip (λ x s. bytes s ≡ line_of x) rows ys → map bytes ys ≡ map line_of rows
lined bytes [] [] h = refl
lined bytes [] (y ∷ ys) h = absurd h
lined bytes (x ∷ rows) [] h = absurd h
lined bytes (x ∷ rows) (y ∷ ys) h = λ i. h.0 i ∷ lined bytes rows ys h.1 i

pub returns : goal.returns
returns g c =
    let slice = ap (λ it. it.slice.now) c.map.ensures.base ∙ c.par_iter.ensures in
    let h = c.in_ok-lines.ensures in
    if_ok c.in_ok-lines.lines _ _ _ h.2 (λ v m.
    let told = slice-AllZip h.1.0 c.args.records.now (h.1.1 ∙ slice) (λ x r. IfOk r (λ s. string_bytes s ≡ line_of x)) h.0 h.1.2 in
    let at = subst (λ r. AllZip (λ x r. IfOk r (λ s. string_bytes s ≡ line_of x)) c.args.records.now r) m.1 told in
    ap (map string_bytes) m.2 ∙ lined string_bytes c.args.records.now m.0 (made _ (λ x s. string_bytes s ≡ line_of x) c.args.records.now m.0 at))
