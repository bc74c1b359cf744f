use Rattle.hub_tables.proofs.Common.{◌≡◌, true, List, ◌++◌, ◌∷◌, [], Result, Ok, Err, OnOk, OnErr, ap, sym, ◌∙◌, Event, Journey, fits, EstimateAnchor, estimate_anchor}
use Rattle.hub_tables.proofs.wagon.Wagon.add.Goals as goal

-- what is kept goes along with the track, or both stay
kept_after : {T E : Type 0} (r : Result T E) (old new : Journey) (was now : EstimateAnchor) (events : List Event) →
    OnOk r (new ≡ record old { events = events }) → OnOk r (now ≡ estimate_anchor events) → OnErr r (new ≡ old) → OnErr r (now ≡ was) →
    (was ≡ estimate_anchor old.events) × (fits old.events ≡ true) → fits events ≡ true → (now ≡ estimate_anchor new.events) × (fits new.events ≡ true)
kept_after (Ok x) old new was now events track kept same_track same before fit =
    (kept ∙ ap (λ (j : Journey). estimate_anchor j.events) (sym track), ap (λ (j : Journey). fits j.events) track ∙ fit)
kept_after (Err x) old new was now events track kept same_track same before fit =
    (same ∙ before.0 ∙ ap (λ (j : Journey). estimate_anchor j.events) (sym same_track), ap (λ (j : Journey). fits j.events) same_track ∙ before.1)

pub invariant_of-self : goal.invariant_of-self
invariant_of-self c =
    let add = c.add.ensures in
    let events = c.self.inside.track.events ++ c.args.event ∷ [] in
    let fit = ap (λ (j : Journey). fits (j.events ++ c.args.event ∷ [])) c.self.view_is ∙ c.requires.fits in
    kept_after c.add.result c.self.inside.track c.add.new.track c.self.inside.kept c.add.new.self events add.track add.kept add.same_track add.same c.self.invariant fit
