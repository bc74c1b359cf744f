use Rattle.journey.proofs.Common.{ap, ◌∙◌, Journey, refusal}
use Rattle.journey.proofs.SoundStateLemmas.{kept-push, room-kept}
use Rattle.journey.proofs.track.Track.add.Goals as goal

pub advance-requires-clause-room : goal.advance-requires-clause-room
advance-requires-clause-room c =
    let e = c.args.event in
    room-kept c.self.inside.events.items c.self.inside.journey_state e c.self.invariant (ap (λ (t : Journey). refusal t.events e.by e.body) c.self.view_is ∙ c.requires)

pub invariant_of-self-2 : goal.invariant_of-self-2
invariant_of-self-2 c =
    let e = c.args.event in
    let admitted = ap (λ (t : Journey). refusal t.events e.by e.body) c.self.view_is ∙ c.requires in
    rw (c.push_reserved.ensures.items, c.in_ok-reserve.ensures.items) (kept-push c.self.inside.events.items c.self.inside.journey_state c.advance.new.self e c.self.invariant admitted c.advance.ensures)

pub returns-clause-on_a_leg : goal.returns-clause-on_a_leg
returns-clause-on_a_leg c =
    let kept = invariant_of-self-2 c in
    let on_a_leg = kept.sound.on_a_leg in
    rw kept.state_is at on_a_leg
