-- What is known of an offer by what was made.
use Rattle.std.proofs.Common.{◌≡◌, ℕ, Bool, true, false, List, [], ◌∷◌, Option, Some, None, if◌then◌else◌, refl, ap, sym, ◌∙◌, bytes_eq, ◌==◌, option_map}
use Rattle.taf_codes.specs.Equality.{texts, numbers, both}
use Rattle.taf_codes.specs.declared.code.Railway.{Railway}
use Rattle.replay_numbers.specs.Names.{same_name}
use Rattle.std.specs.Option.{option_map_or}
use Rattle.std.specs.Map.{set_value}
use Rattle.std.proofs.lemmas.Option.{same_Some}
use Rattle.interchange.specs.declared.offer.Offer.{Offer}
use Rattle.interchange.specs.declared.offer.OfferEntry.{OfferEntry}
use Rattle.interchange.specs.OfferTable.{entry_of, closed_entry, with_closed}

-- where there is no offer, none was made
pub none_made : (entry : Option OfferEntry) → option_map (λ m. m.offer) entry ≡ None → entry ≡ None
none_made None h = refl
none_made (Some m) h = cc

-- the offer of what is put in place of this
pub offer_if : (here : Bool) (offer : Offer) (is_open : Bool) (before : Option OfferEntry) → option_map (λ m. m.offer) (if here then Some (record { offer = offer; is_open = is_open }) else before) ≡ (if here then Some offer else option_map (λ m. m.offer) before)
offer_if true offer is_open before = refl
offer_if false offer is_open before = refl

-- and whether it is open
pub open_if : (here : Bool) (offer : Offer) (is_open : Bool) (before : Option OfferEntry) → option_map_or (λ m. m.is_open) (if here then Some (record { offer = offer; is_open = is_open }) else before) false ≡ (if here then is_open else option_map_or (λ m. m.is_open) before false)
open_if true offer is_open before = refl
open_if false offer is_open before = refl

-- equal names have the same offer
pub same_made : (offers : List ((Railway × ℕ) × OfferEntry)) (by : Railway) (number : ℕ) (also : Railway) (other : ℕ) → same_name by number also other ≡ true → entry_of offers also other ≡ entry_of offers by number
same_made offers by number also other same =
    let parts = both (bytes_eq by also) (number == other) same in
    let sender = texts.equal by also parts.0 in
    let count = numbers.equal number other parts.1 in
    λ i. entry_of offers (sym sender i) (sym count i)

-- what stands under each name once the offer of this one is closed
pub entry_of-closed_entry : (before after : List ((Railway × ℕ) × OfferEntry)) (by : Railway) (number : ℕ) (entry : OfferEntry) → entry_of before by number ≡ Some entry
    → ((name : Railway × ℕ) → entry_of after name.0 name.1 ≡ (if same_name by number name.0 name.1 then Some (closed_entry entry) else entry_of before name.0 name.1))
    → (also : Railway) (other : ℕ) → entry_of after also other ≡ (if same_name by number also other then option_map closed_entry (entry_of before also other) else entry_of before also other)
entry_of-closed_entry before after by number entry found written also other = written (also, other) ∙ here (same_name by number also other) refl
  where
    here : (same : Bool) → same_name by number also other ≡ same → (if same then Some (closed_entry entry) else entry_of before also other) ≡ (if same then option_map closed_entry (entry_of before also other) else entry_of before also other)
    here true e = ap (option_map closed_entry) (sym (same_made before by number also other e ∙ found))
    here false e = refl

-- the offers once the closed one is written over the open one
pub set_value-closed_entry : (offers : List ((Railway × ℕ) × OfferEntry)) (by : Railway) (number : ℕ) (entry : OfferEntry) → entry_of offers by number ≡ Some entry
    → set_value (λ name. same_name by number name.0 name.1) offers (closed_entry entry) ≡ with_closed offers by number
set_value-closed_entry [] by number entry found = refl
set_value-closed_entry (first ∷ offers) by number entry found = here (same_name by number first.0.0 first.0.1) found (set_value-closed_entry offers by number entry)
  where
    here : (same : Bool) → (if same then Some first.1 else entry_of offers by number) ≡ Some entry
        → (entry_of offers by number ≡ Some entry → set_value (λ n. same_name by number n.0 n.1) offers (closed_entry entry) ≡ with_closed offers by number)
        → (if same then (first.0, closed_entry entry) ∷ offers else first ∷ set_value (λ n. same_name by number n.0 n.1) offers (closed_entry entry))
        ≡ (if same then (first.0, closed_entry first.1) ∷ offers else first ∷ with_closed offers by number)
    here true found rest = ap (λ m. (first.0, closed_entry m) ∷ offers) (sym (same_Some first.1 entry found))
    here false found rest = ap (λ others. first ∷ others) (rest found)
