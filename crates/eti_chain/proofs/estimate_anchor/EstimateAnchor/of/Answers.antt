use Rattle.eti_chain.proofs.Common.{ap, ◌∙◌, EstimateBasis, fits_in}
use Rattle.eti_chain.proofs.CalendarLemmas.{is_within}
use Rattle.eti_chain.proofs.estimate_anchor.EstimateAnchor.of.Goals as goal

pub invariant_of-result : goal.invariant_of-result
invariant_of-result c =
    rw (ap (λ (r : EstimateBasis). r.anchor) c.result.view_is) (is_within c.of.result c.of.ensures.on_a_leg (ap fits_in c.of.ensures.value ∙ c.requires)).small
