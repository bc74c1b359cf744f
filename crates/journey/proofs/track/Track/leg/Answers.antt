use Rattle.journey.proofs.Common.{ap, ◌∙◌, slice_get, Journey, JourneyState, events_on_legs, leg_by_newest}
use Rattle.journey.proofs.NewestLegLemmas.{legs_are_the_newest}
use Rattle.journey.proofs.track.Track.leg.Goals as goal

pub returns-clause-newest : goal.returns-clause-newest
returns-clause-newest c =
    c.leg.ensures ∙ ap (λ (s : JourneyState). slice_get s.legs c.args.i) c.self.invariant.state_is ∙
    legs_are_the_newest c.self.inside.events.items c.self.invariant.is_journey c.args.i ∙
    ap (λ (t : Journey). leg_by_newest (events_on_legs t.events) c.args.i) c.self.view_is
