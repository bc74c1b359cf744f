-- What is kept for the estimates goes along with the events.
use Rattle.eti_chain.proofs.Common.{◌≡◌, List, [], ◌∷◌, ◌++◌, Option, None, ap, ◌∙◌, sym, option_map, Event, refusal, plan-kept, Anchor, basis_from, estimate_basis, anchor, commitment, JourneyState, IsTrackState, anchor_after}
use Rattle.eti_chain.proofs.EstimateLemmas.{anchor_push}

-- the plan, and so the commitment, stays
pub commitment-kept : (events : List Event) (e : Event) → refusal events e.by e.body ≡ None → commitment events ≡ commitment (events ++ e ∷ [])
commitment-kept events e r = ap (option_map (λ p. p.commit)) (sym (plan-kept events e r))

-- what estimates are counted from, by the state with the event
pub basis-push : (events : List Event) (e : Event) (s : JourneyState) (a next : Option Anchor) → IsTrackState (events ++ e ∷ []) s → next ≡ anchor_after a e → a ≡ anchor events →
    basis_from s.leg_index s.legs next ≡ estimate_basis (events ++ e ∷ [])
basis-push events e s a next state is was =
    let anchors = is ∙ ap (λ (x : Option Anchor). anchor_after x e) was ∙ sym (anchor_push events e) in
    λ i. basis_from (state.state_is i).leg_index (state.state_is i).legs (anchors i)
