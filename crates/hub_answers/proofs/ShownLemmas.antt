-- What a railway is shown of the fleet is of its trips.
use Rattle.std.proofs.Common.{◌≡◌, ℕ, List, [], ◌∷◌, Option, Some, None, option_map, refl, ap, ◌∙◌}
use Rattle.std.specs.List.{AllByRecursion, cons_option}
use Rattle.taf_codes.specs.declared.code.Railway.{Railway}
use Rattle.hub_model.specs.HubState.{HubState}
use Rattle.hub_model.specs.NeedToKnow.{IsOfTrip, RecordsAreForTheTrip}
use Rattle.hub_answers.specs.declared.shown.ShownWagon.{ShownWagon}
use Rattle.hub_answers.specs.Shown.{shown_of, shown_to, ShownIsAsked}

abbrev OfTrip : HubState → Railway → ShownWagon → Type 0
OfTrip s by shown = IsOfTrip (s.journey shown.wimo.wagon) by

one_more : (s : HubState) (by : Railway) → RecordsAreForTheTrip → ShownIsAsked → (w : ℕ) (o : Option ShownWagon) → shown_of s by w ≡ o →
    (rest : List ShownWagon) → AllByRecursion (OfTrip s by) rest → AllByRecursion (OfTrip s by) (cons_option o rest)
one_more s by trip asked w None here rest all = all
one_more s by trip asked w (Some shown) here rest all =
    ((trip s by).wagon w shown.wimo ((asked s by w shown.wimo).0 (ap (option_map (λ (x : ShownWagon). x.wimo)) here)), all)

pub all_of_trip : (s : HubState) (by : Railway) → RecordsAreForTheTrip → ShownIsAsked → (ws : List ℕ) → AllByRecursion (OfTrip s by) (shown_to s by ws)
all_of_trip s by trip asked [] = tt
all_of_trip s by trip asked (w ∷ ws) = one_more s by trip asked w (shown_of s by w) refl (shown_to s by ws) (all_of_trip s by trip asked ws)
