-- No `<` is left in a text that is escaped.
use Rattle.std.proofs.Common.{◌≡◌, ◌≢◌, ℕ, Bool, true, false, ◌==◌, List, [], ◌∷◌, ◌++◌, cond, codes, refl, rules}
use Rattle.std.proofs.lemmas.Bool.{eqb-false}
use Rattle.std.specs.List.{AllByRecursion}
use Rattle.board_file.specs.Files.{escaped, escaped_byte}

-- it is no `<`
abbrev pub IsOther : ℕ → Type 0
IsOther b = b ≢ 60

both : (front rest : List ℕ) → AllByRecursion IsOther front → AllByRecursion IsOther rest → AllByRecursion IsOther (front ++ rest)
both [] rest f r = r
both (b ∷ front) rest f r = (f.0, both front rest f.1 r)

of_byte : (b : ℕ) (same : Bool) → (b == 60) ≡ same → AllByRecursion IsOther (cond same (codes "\\u003c") (b ∷ []))
of_byte b true h = search rules
of_byte b false h = (eqb-false b 60 h, tt)

pub no_escaped : (text : List ℕ) → AllByRecursion IsOther (escaped text)
no_escaped [] = tt
no_escaped (b ∷ text) = both (escaped_byte b) (escaped text) (of_byte b (b == 60) refl) (no_escaped text)
