-- Records without lists: objects of texts and whole numbers.
use Rattle.std.specs.Prelude.{ℕ, ◌<◌, ◌^◌, List, [], ◌∷◌, Option, Some, None, ⊤, if◌then◌else◌, decimal}
use Rattle.std.specs.Option.{option_or}
use Rattle.std.specs.Borrow.{Bor}
use Rattle.std.specs.Str.{bytes_eq}
use Rattle.json.specs.Token.{Token}
use Rattle.json.specs.Token as token
use Rattle.json.specs.Json as json
use Rattle.serde_json.specs.Data.{Data, unsigned, number, string, object, Members, no_members, put}
use Rattle.json_tokens.specs.declared.flat.Scalar.{Scalar}
use Rattle.json_tokens.specs.declared.flat.Scalar.TheVariants.{Text, Whole}

-- a key with its value
abbrev pub Member : Type 0
Member = Bor (List ℕ) × Scalar

-- the token of a value, and its JSON
abbrev pub scalar_token : Scalar → Token
scalar_token (Text s) = token.string s.now
scalar_token (Whole n) = token.number (decimal n)

abbrev pub scalar_json : Scalar → json.Json
scalar_json (Text s) = json.string s.now
scalar_json (Whole n) = json.number (decimal n)

-- what a value is read as
abbrev pub scalar_data : Scalar → Data
scalar_data (Text s) = string s.now
scalar_data (Whole n) = number (unsigned n)

-- a number has 64 bits at most
abbrev pub IsSmallScalar : Scalar → Type 0
IsSmallScalar (Text s) = ⊤
IsSmallScalar (Whole n) = n < 2 ^ 64

-- each number has
abbrev pub HaveSmallNumbers : List Member → Type 0
HaveSmallNumbers [] = ⊤
HaveSmallNumbers (m ∷ ms) = IsSmallScalar m.1 × HaveSmallNumbers ms

-- the tokens of members, and their JSON
abbrev pub member_tokens : List Member → List Token
member_tokens [] = []
member_tokens (m ∷ ms) = token.key m.0.now ∷ scalar_token m.1 ∷ member_tokens ms

abbrev pub member_json : List Member → json.Members
member_json [] = json.no_members
member_json (m ∷ ms) = json.member m.0.now (scalar_json m.1) (member_json ms)

-- the members, put one after another
abbrev pub put_all : List Member → Members → Members
put_all [] before = before
put_all (m ∷ ms) before = put_all ms (put m.0.now (scalar_data m.1) before)

-- what the members are read as
abbrev pub flat_data : List Member → Data
flat_data ms = object (put_all ms no_members)

-- the value of a member, if it stands under a name
abbrev pub under : List ℕ → Member → Option Scalar
under name m = if bytes_eq m.0.now name then Some m.1 else None

-- the last value under a name
abbrev pub last_under : List ℕ → List Member → Option Scalar
last_under name [] = None
last_under name (m ∷ ms) = option_or (last_under name ms) (under name m)
