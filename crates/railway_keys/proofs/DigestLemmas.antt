-- What the bits tell in which two digests differ.
use Rattle.std.proofs.Common.{◌≡◌, ℕ, ◌<◌, Bool, true, false, List, bytes_eq, length, get_or, refl, sym, ap, ◌∙◌, arith, nat_eq}
use Rattle.std.specs.Int.Bits.{bit_or, bit_xor, xor_assoc, xor_self, xor_zero_l, xor_zero_r}
use Rattle.std.proofs.lemmas.Nat.{le_or_l, le_or_r}
use Rattle.std.proofs.lemmas.Slice.Eq.{bytes_eq-Decides}
use Rattle.std.proofs.lemmas.Bool.{eq-eqb, eqb-true}
use Rattle.std.proofs.lemmas.Grind.{same_number_lists}

-- two numbers that do not differ in a bit are one
same-bits : (a b : ℕ) → bit_xor a b ≡ 0 → a ≡ b
same-bits a b none = sym (xor_zero_r a) ∙ ap (bit_xor a) (sym (xor_self b)) ∙ sym (xor_assoc a b b) ∙ ap (λ n. bit_xor n b) none ∙ xor_zero_l b

-- no difference so far, and none here
pub none-so-far : (d a b : ℕ) → bit_or d (bit_xor a b) ≡ 0 → (d ≡ 0) × (a ≡ b)
none-so-far d a b none = (omega (arith, le_or_l d (bit_xor a b)), same-bits a b (omega (arith, le_or_r d (bit_xor a b))))

pub none-more : (d a b : ℕ) → d ≡ 0 → a ≡ b → bit_or d (bit_xor a b) ≡ 0
none-more d a b none same = rw (none, same, xor_self b) refl

-- two tests that hold of the same are one
one-test : (t u : Bool) → (t ≡ true → u ≡ true) → (u ≡ true → t ≡ true) → t ≡ u
one-test true u f g = sym (f refl)
one-test false true f g = g refl
one-test false false f g = refl

-- where there is no difference, and only there, both are the same
pub same-test : (a b : List ℕ) (d : ℕ) → length a ≡ length b → (d ≡ 0 → (k : ℕ) → k < length a → get_or a k 0 ≡ get_or b k 0) → (a ≡ b → d ≡ 0) → nat_eq d 0 ≡ bytes_eq a b
same-test a b d len same none =
    one-test (nat_eq d 0) (bytes_eq a b)
    (λ zero. (bytes_eq-Decides a b).1 (same_number_lists a b len (same (eqb-true d 0 zero))))
    (λ equal. eq-eqb d 0 (none ((bytes_eq-Decides a b).0 equal)))
