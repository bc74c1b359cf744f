use Rattle.std.proofs.Common.{◌≡◌, ◌∙◌, List, ℕ, ap, sym, subst, map, string_bytes, IfOk, Vec, String, Global}
use Rattle.std.specs.List.{AllZip}
use Rattle.rayon.proofs.ToStd.{slice-AllZip}
use Rattle.rayon.specs.Lists.{min_len_base}
use Rattle.hub_model.specs.HubState.{HubState}
use Rattle.hub_model.specs.Histories.{state_of}
use Rattle.wimo_report.specs.Parts.{IsPart}
use Rattle.wimo_report.proofs.MadeLemmas.{if_ok, made}
use Rattle.wimo_report.proofs.report.parallel_parts.Goals as goal

-- these are the lines of the parts that begin at these places
abbrev AreParts : HubState → List ℕ → List (Vec (String Global) Global) → Type 0
AreParts s starts parts = AllZip (λ from (part : Vec (String Global) Global). IsPart s from (map string_bytes part.items)) starts parts

pub returns : goal.returns
returns g c =
    let starts = c.args.starts.now in
    let there = state_of c.map.result.f.1.now in
    let same : there ≡ state_of c.args.hub.now = ap (λ f. state_of f.1.now) c.map.ensures.f in
    let base = ap min_len_base c.map.ensures.base ∙ c.with_min_len.ensures.base in
    let slice = ap (λ it. it.slice.now) base ∙ c.par_iter.ensures in
    let h = c.in_ok-parts.ensures in
    if_ok c.in_ok-parts.parts _ _ _ h.2 (λ v m.
    let told = slice-AllZip h.1.0 starts (h.1.1 ∙ slice) (λ from r. IfOk r (λ part. IsPart there from (map string_bytes part.items))) h.0 h.1.2 in
    let at = subst (λ r. AllZip (λ from r. IfOk r (λ part. IsPart there from (map string_bytes part.items))) starts r) m.1 told in
    subst (λ s. AreParts s starts v.items) same (subst (AreParts there starts) (sym m.2) (made _ (λ from part. IsPart there from (map string_bytes part.items)) starts m.0 at)))
