-- The form in which a record without lists is written.
use Rattle.std.specs.Prelude.{◌≡◌, ℕ, ◌<◌, ◌==◌, ◌||◌, nat_lt, Bool, true, List, [], ◌∷◌, ◌++◌, get_or}
use Rattle.json.specs.Token.{Token}
use Rattle.json.specs.Token as token
use Rattle.json.specs.Print.{token_text}
use Rattle.json_tokens.specs.Flat.{Member, scalar_token, member_tokens}
use Rattle.json_tokens.specs.Writing.{is_plain_letter}

-- the text of a key with its value
abbrev pub member_text : Member → List ℕ
member_text m = token_text (token.key m.0.now) ++ token_text (scalar_token m.1)

-- the texts of members, each with a comma
abbrev pub members_text : List Member → List ℕ
members_text [] = []
members_text (m ∷ ms) = member_text m ++ 44 ∷ members_text ms

-- the tokens of a record
abbrev pub flat_tokens : List Member → List Token
flat_tokens ms = token.begin_object ∷ (member_tokens ms ++ token.end_object ∷ [])

-- a letter at which a plain text stops
abbrev pub is_stop : ℕ → Bool
is_stop letter = (letter == 34) || (letter == 92) || nat_lt letter 32

-- each letter before a place is plain
abbrev pub PlainUpTo : List ℕ → ℕ → Type 0
PlainUpTo text n = (k : ℕ) → k < n → is_plain_letter (get_or text k 0) ≡ true
