use Rattle.eti_chain.proofs.Common.{◌≡◌, true, arith, ap, sym, ◌∙◌, not, index_after, anchor_after, basis_from, fits_in, EstimatesState}
use Rattle.eti_chain.specs.declared.estimates.Estimates.TheInside.{Inside}
use Rattle.eti_chain.proofs.EstimateLemmas.{keeps_legs, basis-moved}
use Rattle.eti_chain.proofs.EstimateStateLemmas.{basis-push}
use Rattle.eti_chain.proofs.estimates.Estimates.would_pass_calendar.Goals as goal

pub returns-in-Moved : goal.returns-in-Moved
returns-in-Moved c =
    let e = c.args.event.now in
    let state = c.journey_state-state.ensures.value in
    let newest = ap (λ (x : Inside). x.basis.anchor) c.self-inside.view_is ∙ ap (λ (k : EstimatesState). k.estimate_basis.anchor) (c.self.view_is ∙ c.requires.of_track) in
    let anchors = c.anchor_after-anchor.ensures.value ∙ ap (λ a. anchor_after a e) newest in
    let index = c.leg_index_after-leg_index.ensures.value ∙ (λ i. index_after (state i).leg_index e.body) in
    let kept : keeps_legs e.body ≡ true = grind (arith, c.in-Moved.is) in
    ap not (c.fits-in-Moved.ensures ∙ ap fits_in (c.by-in-Moved.ensures ∙ (λ i. basis_from (index i) (state i).legs (anchors i)) ∙ sym (basis-moved c.args.track.now.events e kept)))

pub returns-in_default : goal.returns-in_default
returns-in_default c =
    let newest = ap (λ (x : Inside). x.basis.anchor) c.self-inside.view_is ∙ ap (λ (k : EstimatesState). k.estimate_basis.anchor) (c.self.view_is ∙ c.requires.of_track) in
    ap not (c.fits.ensures ∙ ap fits_in (c.by.ensures ∙ basis-push c.args.track.now.events c.args.event.now c.state_after-state.result _ _ c.state_after-state.ensures c.anchor_after-anchor.ensures.value newest))
