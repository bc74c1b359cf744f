use Rattle.journey.proofs.Common.{[], ◌∷◌, ◌++◌, ap, ◌∙◌, subst, Journey, refusal, journey_state_after, IsTrackState}
use Rattle.journey.proofs.SoundStateLemmas.{kept-push}
use Rattle.journey.proofs.track.Track.state_after.Goals as goal

pub returns : goal.returns
returns c =
    let e = c.args.event.now in
    let admitted = ap (λ (t : Journey). refusal t.events e.by e.body) c.self.view_is ∙ c.requires in
    let kept = kept-push c.self.inside.events.items c.self.inside.journey_state c.advance.new.self e c.self.invariant admitted (c.advance.ensures ∙ ap (λ s. journey_state_after s e) c.copy-state.ensures) in
    subst (λ (t : Journey). IsTrackState (t.events ++ e ∷ []) c.advance.new.self) c.self.view_is kept
