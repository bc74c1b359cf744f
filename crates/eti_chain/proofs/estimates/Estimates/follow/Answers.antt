use Rattle.eti_chain.proofs.Common.{◌≡◌, ap, ◌∙◌, ◌++◌, ◌∷◌, [], fits_in, EstimatesState, state_with_commitment, estimate_basis}
use Rattle.eti_chain.specs.declared.estimates.Estimates.TheInside.{Inside}
use Rattle.eti_chain.proofs.CalendarLemmas.{is_within}
use Rattle.eti_chain.proofs.EstimateStateLemmas.{commitment-kept, basis-push}
use Rattle.eti_chain.proofs.estimates.Estimates.follow.Goals as goal

-- what they are counted from with the event
value : (c : goal.After-self-1) → c.by-self-inside.result ≡ estimate_basis (c.args.track.now.events ++ c.args.event.now ∷ [])
value c =
    let newest = ap (λ (x : Inside). x.basis.anchor) c.self-inside.view_is ∙ ap (λ (k : EstimatesState). k.estimate_basis.anchor) (c.self.view_is ∙ c.requires.of_track) in
    c.by-self-inside.ensures ∙ basis-push c.args.track.now.events c.args.event.now c.state_after-state.result _ _ c.state_after-state.ensures c.anchor_after-anchor.ensures.value newest

pub invariant_of-self : goal.invariant_of-self
invariant_of-self c = is_within c.by-self-inside.result (rw c.by-self-inside.ensures c.state_after-state.ensures.sound.on_a_leg) (ap fits_in (value c) ∙ c.requires.fits)

pub returns : goal.returns
returns c =
    let commits = ap (λ (k : EstimatesState). k.commit) (c.self.view_is ∙ c.requires.of_track) ∙ commitment-kept c.args.track.now.events c.args.event.now c.requires.admitted in
    λ i. state_with_commitment (value c i) (commits i)
