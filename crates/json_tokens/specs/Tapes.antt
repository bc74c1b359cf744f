-- The data of a value on a tape, which is the list of a text's tokens.
use Rattle.std.specs.Prelude.{◌≡◌, ℕ, ◌+◌, ◌-◌, ◌<◌, List, [], ◌∷◌, Option, Some, option_and_then, unwrap_or, ⊤}
use Rattle.json.specs.Token.{Token}
use Rattle.json.specs.Token as token
use Rattle.json.specs.Json.{value}
use Rattle.serde_json.specs.Data.{Data, null, unsigned, Items, no_items}
use Rattle.serde_json.specs.Find.{as_array}
use Rattle.serde_json.specs.Read.{of_json, number_of, max_depth}

-- what the value that comes first is read as, if it can be read
unfoldable pub first_data : List Token → Option Data
first_data ts = option_and_then (λ p. of_json p.0) (value max_depth ts)

-- the items that come first, up to the bracket that closes their list
abbrev pub first_items : List Token → Option Items
first_items ts = option_and_then as_array (first_data (token.begin_array ∷ ts))

abbrev pub tape_data : List Token → Data
tape_data ts = unwrap_or (first_data ts) null

abbrev pub tape_items : List Token → Items
tape_items ts = unwrap_or (first_items ts) no_items

-- the digits are those of a whole number of 64 bits
abbrev pub IsWhole : List ℕ → Type 0
IsWhole digits = (n : ℕ) × (number_of digits ≡ Some (unsigned n))

-- at a depth, each number is a whole one, and no list and no object is too deep to be read
abbrev pub IsSimpleAt : ℕ → List Token → Type 0
IsSimpleAt depth [] = ⊤
IsSimpleAt depth (token.begin_object ∷ ts) = (depth < max_depth) × IsSimpleAt (depth + 1) ts
IsSimpleAt depth (token.end_object ∷ ts) = IsSimpleAt (depth - 1) ts
IsSimpleAt depth (token.begin_array ∷ ts) = (depth < max_depth) × IsSimpleAt (depth + 1) ts
IsSimpleAt depth (token.end_array ∷ ts) = IsSimpleAt (depth - 1) ts
IsSimpleAt depth (token.number digits ∷ ts) = IsWhole digits × IsSimpleAt depth ts
IsSimpleAt depth (_ ∷ ts) = IsSimpleAt depth ts
