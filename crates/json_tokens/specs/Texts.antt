-- JSON by its fields, and what a step of a writer adds.
use Rattle.std.specs.Prelude.{◌≡◌, ℕ, ◌<◌, ◌^◌, List, [], ◌∷◌, ◌++◌, All, Option, Some, None, decimal, map, ⊤}
use Rattle.json.specs.Token.{Token}
use Rattle.json.specs.Written.{Written}
use Rattle.json.specs.Tree.{json_tokens}
use Rattle.serde_json.specs.Data.{Data, null, number, unsigned, string, array, object, Members, no_members, member}
use Rattle.serde_json.specs.View.{items_of}
use Rattle.serde_json.specs.Written.{outline}

-- a whole number
abbrev pub whole : ℕ → Data
whole n = number (unsigned n)

abbrev pub text : List ℕ → Data
text = string

-- ---- objects by their fields

abbrev pub Fields : Type 0
Fields = List (List ℕ × Data)

abbrev pub members : Fields → Members
members [] = no_members
members (f ∷ fs) = member f.0 f.1 (members fs)

abbrev pub fields : Fields → Data
fields fs = object (members fs)

-- one field
abbrev pub field : {X : Type 0} → (X → Data) → List ℕ → X → Fields
field shape name x = (name, shape x) ∷ []

-- a field that is left out where there is no value
abbrev pub field_if : {X : Type 0} → (X → Data) → List ℕ → Option X → Fields
field_if shape name None = []
field_if shape name (Some x) = (name, shape x) ∷ []

-- a value or null
abbrev pub or_null : {X : Type 0} → (X → Data) → Option X → Data
or_null shape None = null
or_null shape (Some x) = shape x

abbrev pub list_of : {X : Type 0} → (X → Data) → List X → Data
list_of shape xs = array (items_of (map shape xs))

-- a list, if it is not empty
abbrev pub unless_empty : {X : Type 0} → List X → Option (List X)
unless_empty [] = None
unless_empty (x ∷ xs) = Some (x ∷ xs)

-- ---- what a step of a writer adds

abbrev pub Adds : Written → Written → List Token → Type 0
Adds old new ts = new.tokens ≡ old.tokens ++ ts

abbrev pub AddsData : Written → Written → Data → Type 0
AddsData old new d = Adds old new (json_tokens (outline d))

-- the tokens of fields, without the closing bracket
abbrev pub field_tokens : Fields → List Token
field_tokens [] = []
field_tokens (f ∷ fs) = Token.key f.0 ∷ (json_tokens (outline f.1) ++ field_tokens fs)

-- the tokens with those of one field after the other
abbrev pub with_field_tokens : List Token → Fields → List Token
with_field_tokens ts [] = ts
with_field_tokens ts (f ∷ fs) = with_field_tokens (ts ++ Token.key f.0 ∷ json_tokens (outline f.1)) fs

abbrev pub AddsFields : Written → Written → Fields → Type 0
AddsFields old new fs = new.tokens ≡ with_field_tokens old.tokens fs

abbrev pub AddsField : Written → Written → List ℕ → Data → Type 0
AddsField old new name d = AddsFields old new ((name, d) ∷ [])

abbrev pub AddsFieldIf : {X : Type 0} → (X → Data) → Written → Written → List ℕ → Option X → Type 0
AddsFieldIf shape old new name value = AddsFields old new (field_if shape name value)

-- the tokens of items, without the closing bracket
abbrev pub item_tokens : List Data → List Token
item_tokens [] = []
item_tokens (d ∷ ds) = json_tokens (outline d) ++ item_tokens ds

-- ---- numbers of a text

-- if the token is a number, it is a whole one of 64 bits
abbrev pub IsSmallToken : Token → Type 0
IsSmallToken (Token.number s) = (n : ℕ) × (n < 2 ^ 64) × (s ≡ decimal n)
IsSmallToken _ = ⊤

abbrev pub AreSmall : List Token → Type 0
AreSmall ts = All IsSmallToken ts
