-- The bytes that are read before a session, one after another.
use Rattle.std.proofs.Common.{◌≡◌, ℕ, ◌≤◌, List, [], ◌∷◌, ◌++◌, length, take, get_or, Option, refl, sym, ap, ◌∙◌, subst, arith, append-nil}
use Rattle.std.specs.Io.KnownBytes.{Consumes}
use Rattle.std.proofs.KnownBytes.{Consumes-trans}
use Rattle.std.proofs.lemmas.List.Sums.{fold_push}
use Rattle.railway_keys.specs.FirstLines.{no_line, with_byte, line_read}

-- one byte that was read
pub one-taken : (buf : List ℕ) (n : ℕ) → length buf ≡ 1 → n ≤ length buf → (n ≡ 0 → ⊥) → take n buf ≡ get_or buf 0 0 ∷ []
one-taken [] n len le some = absurd (some (omega (arith, le)))
one-taken (b ∷ []) n len le some = let one : n ≡ 1 = omega (arith, le, some) in rw one refl
one-taken (b ∷ x ∷ buf) n len le some = absurd (omega (arith, len))

-- it is held, behind those before it
pub held-more : (old known new : Option (List ℕ)) (held more taken : List ℕ) (byte : ℕ) → taken ≡ byte ∷ [] → more ≡ held ++ byte ∷ [] → Consumes old known held → Consumes known new taken → Consumes old new more
held-more old known new held more taken byte one grown before now =
    subst (Consumes old new) (ap (λ l. held ++ l) one ∙ sym grown) (Consumes-trans old known new held taken before now)

-- none was read
pub held-still : (old known new : Option (List ℕ)) (held taken : List ℕ) → taken ≡ [] → Consumes old known held → Consumes known new taken → Consumes old new held
held-still old known new held taken none before now =
    subst (Consumes old new) (ap (λ l. held ++ l) none ∙ append-nil held) (Consumes-trans old known new held taken before now)

-- what it makes of the first line
pub line-more : (held more : List ℕ) (byte : ℕ) → more ≡ held ++ byte ∷ [] → line_read more ≡ with_byte (line_read held) byte
line-more held more byte grown = ap line_read grown ∙ fold_push with_byte no_line held byte
