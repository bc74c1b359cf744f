use Rattle.journey.proofs.Common.{◌≡◌, [], ◌∷◌, ◌++◌, ap, ◌∙◌, sym, subst, Journey, JourneyState, legs, legs_after, earlier_state, IsTrackState}
use Rattle.journey.proofs.LegPositionLemmas.{legs-push}
use Rattle.journey.proofs.track.Track.state_before.Goals as goal

pub returns : goal.returns
returns c =
    let e = c.args.event.now in
    let t = c.self.inside in
    let kept = c.in_ok-before.field-0 in
    let legs_are = legs-push t.events.items e ∙ ap (λ (s : JourneyState). legs_after s.leg_index s.legs e.body) (sym c.self.invariant.state_is) in
    let earlier : earlier_state kept (legs (t.events.items ++ e ∷ [])) ≡ t.journey_state = ap (earlier_state kept) legs_are ∙ c.in_ok-before.ensures in
    subst (λ (j : Journey). IsTrackState j.events (earlier_state kept (legs (j.events ++ e ∷ [])))) c.self.view_is
    (subst (IsTrackState t.events.items) (sym earlier) c.self.invariant)
