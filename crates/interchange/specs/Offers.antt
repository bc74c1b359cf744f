-- Offers and their answers (4.2.8).
use Rattle.std.specs.Prelude.{ℕ, ◌==◌, Bool, ◌&&◌, List, [], Option, option_map, count_by}
use Rattle.std.specs.Option.{option_map_or}
use Rattle.std.specs.List.{list_all}
use Rattle.taf_codes.specs.declared.code.Railway.{Railway}
use Rattle.taf_codes.specs.declared.code.Place.{Place}
use Rattle.trip_plan.specs.Rules.{has}
use Rattle.interchange.specs.declared.offer.Offer.{Offer}

-- both lists together name each wagon of the offer exactly once, and no other
abbrev pub matches : List ℕ → List ℕ → Bool
matches offered answered =
    list_all (λ w. count_by (λ v. v == w) answered == 1) offered && list_all (λ w. has offered w) answered

-- what an offer says, if there is one
abbrev pub wagons_of : Option Offer → List ℕ
wagons_of offer = option_map_or (λ o. o.wagons) offer []

-- the place of an offer
abbrev pub place_of : Option Offer → Place
place_of offer = option_map_or (λ o. o.place) offer []

-- the railway that an offer asks
abbrev pub asked_by : Option Offer → Option Railway
asked_by offer = option_map (λ o. o.to) offer
