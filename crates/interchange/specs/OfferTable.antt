-- The offers that were made, by their names (4.2.8).
use Rattle.std.specs.Prelude.{ℕ, Bool, false, List, [], ◌∷◌, Option, option_map, if◌then◌else◌}
use Rattle.std.specs.Option.{option_map_or}
use Rattle.std.specs.Map.{lookup}
use Rattle.taf_codes.specs.declared.code.Railway.{Railway}
use Rattle.replay_numbers.specs.Names.{same_name}
use Rattle.interchange.specs.declared.offer.Offer.{Offer}
use Rattle.interchange.specs.declared.offer.OfferEntry.{OfferEntry}

-- each offer under its name, in the order in which they were made, and how many more can be made without memory
pub record OfferTable : Type 0 where
  pub offers : List ((Railway × ℕ) × OfferEntry)
  pub spare : ℕ

-- what was made under a name
abbrev pub entry_of : List ((Railway × ℕ) × OfferEntry) → Railway → ℕ → Option OfferEntry
entry_of offers by number = lookup (λ name. same_name by number name.0 name.1) offers

-- the same offer, which is closed
abbrev pub closed_entry : OfferEntry → OfferEntry
closed_entry entry = record entry { is_open = false }

-- the offers, of which the one of this name is closed; no other is changed, added or left out
abbrev pub with_closed : List ((Railway × ℕ) × OfferEntry) → Railway → ℕ → List ((Railway × ℕ) × OfferEntry)
with_closed [] by number = []
with_closed (entry ∷ offers) by number =
    if same_name by number entry.0.0 entry.0.1 then (entry.0, closed_entry entry.1) ∷ offers else entry ∷ with_closed offers by number

-- the offer of a name
abbrev pub offer_of : OfferTable → Railway → ℕ → Option Offer
offer_of table by number = option_map (λ entry. entry.offer) (entry_of table.offers by number)

-- the offer of a name stands: it was neither answered nor withdrawn
abbrev pub is_standing : OfferTable → Railway → ℕ → Bool
is_standing table by number = option_map_or (λ entry. entry.is_open) (entry_of table.offers by number) false
