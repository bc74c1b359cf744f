use Rattle.std.proofs.Common.{◌≡◌, ◌∙◌, List, ℕ, ap, arith, length, map, subst, string_bytes, Vec, String, Global}
use Rattle.std.specs.List.{AllZip}
use Rattle.hub_model.specs.Histories.{state_of}
use Rattle.wimo_report.specs.Parts.{AreStarts, IsPart}
use Rattle.wimo_report.proofs.PartLemmas.{joined_parts, whole_report}
use Rattle.wimo_report.proofs.report.hub_lines.Goals as goal

pub returns : goal.returns
returns g c =
    let s = state_of c.args.hub.now in
    let starts = subst (λ n. AreStarts 0 n c.in_ok-starts.starts.items) c.wagon_count-count.ensures c.in_ok-starts.ensures in
    let parts = subst (λ (xs : List ℕ). AllZip (λ from (part : Vec (String Global) Global). IsPart s from (map string_bytes part.items)) xs c.in_ok-parts.parts.items) c.as_slice.ensures.value c.in_ok-parts.ensures in
    let told = ap (map string_bytes) c.in_ok-lines.ensures ∙ joined_parts string_bytes (λ (p : Vec (String Global) Global). p.items) s 0 c.in_ok-starts.starts.items c.in_ok-parts.parts.items starts parts in
    let counted : c.len-wagons.result ≡ length c.in_ok-lines.lines.items = omega arith in
    whole_report string_bytes s c.len-wagons.result c.in_ok-lines.lines.items _ told counted c.in_ok-report.ensures
