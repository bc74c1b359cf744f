-- What a writer of JSON has written.
use Rattle.std.specs.Prelude.{◌≡◌, ℕ, ◌≤◌, ◌<◌, ◌^◌, ◌==◌, ◌||◌, nat_lt, not, Bool, true, List, [], ◌∷◌, ◌++◌, length, take, drop, decimal, Result, OnOk, OnErr, ⊤}
use Rattle.std.specs.List.{list_all}
use Rattle.json.specs.Token.{Token}
use Rattle.json.specs.Lex.{tokens}
use Rattle.json.specs.Print.{print, ends_value, ArePrintable}
use Rattle.json.specs.Written.{Written}
use Rattle.json_tokens.specs.Texts.{AreSmall}
use Rattle.json_tokens.specs.declared.writer.Writer.TheInside.{Inside}

-- neither a quote (34) nor a backslash (92) nor a control
abbrev pub is_plain_letter : ℕ → Bool
is_plain_letter letter = not ((letter == 34) || (letter == 92) || nat_lt letter 32)

-- a text that JSON shows as it is
abbrev pub is_plain : List ℕ → Bool
is_plain = list_all is_plain_letter

-- a token whose text is plain, or whose number is a whole one of 64 bits
abbrev pub CanBePut : Token → Type 0
CanBePut (Token.key s) = is_plain s ≡ true
CanBePut (Token.string s) = is_plain s ≡ true
CanBePut (Token.number s) = (n : ℕ) × (n < 2 ^ 64) × (s ≡ decimal n)
CanBePut Token.bad = ⊥
CanBePut _ = ⊤

-- the token is appended, and what stood before stays also where memory is refused
pub record Writes {E : Type 0} (r : Result (Unit {0}) E) (old new : Written) (t : Token) : Type 0 where
  pub ok : OnOk r (new.tokens ≡ old.tokens ++ t ∷ [])
  pub err : OnErr r (new.tokens ≡ old.tokens)
  pub before : new.before ≡ old.before

-- the tokens are those that a reader finds behind what the buffer held at the start
abbrev pub written : Inside → Written
written w = record { before = take w.start w.out.items; tokens = tokens (drop w.start w.out.items); spare = 0 }

-- behind the start stands the text of some tokens, whose numbers are whole ones of 64 bits
pub record IsWriting (w : Inside) : Type 0 where
  pub within : w.start ≤ length w.out.items
  pub printed : List Token
  pub printable : ArePrintable printed
  pub small : AreSmall printed
  pub text : drop w.start w.out.items ≡ print printed
  pub place : w.after_value ≡ ends_value printed
