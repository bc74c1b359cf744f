-- Another byte, or another sum before, gives another sum.
use Rattle.std.proofs.Common.{◌≡◌, ℕ, ◌+◌, ◌*◌, ◌%◌, ◌<◌, ◌^◌, List, [], ◌∷◌, ◌++◌, sym, ap, ◌∙◌, arith}
use Rattle.std.specs.Int.Bits.{bit_xor, xor_self, xor_assoc, xor_zero_r}
use Rattle.std.proofs.lemmas.List.Elements.{All-head, All-tail}
use Rattle.std.proofs.lemmas.Nat.{mul-mod_first, mod-mul-add, xor_comm, xor_lt}
use Rattle.journal_lines.specs.Sums.{with_byte, sum_after}
use Rattle.journal_lines.specs.Laws.{IsByte, AreBytes}

-- the prime of the sum, and its inverse: their product is one more than a multiple of 2 ^ 64
abbrev prime : ℕ
prime = 0x100_0000_01b3

abbrev inverse : ℕ
inverse = 14_886_173_955_864_302_971

product : (x : ℕ) → (x * prime) * inverse ≡ (x * 887_285_111_055) * 2 ^ 64 + x
product x = omega arith

-- a number is found again from its product
found_again : (x : ℕ) → x < 2 ^ 64 → ((x * prime) % 2 ^ 64 * inverse) % 2 ^ 64 ≡ x
found_again x h = mul-mod_first (x * prime) inverse (2 ^ 64) ∙ ap (λ n. n % 2 ^ 64) (product x) ∙ mod-mul-add (x * 887_285_111_055) (2 ^ 64) x h

same_factor : (x y : ℕ) → x < 2 ^ 64 → y < 2 ^ 64 → (x * prime) % 2 ^ 64 ≡ (y * prime) % 2 ^ 64 → x ≡ y
same_factor x y p q e = sym (found_again x p) ∙ ap (λ n. (n * inverse) % 2 ^ 64) e ∙ found_again y q

-- a number is found again from its `xor` with another one
xor_again : (a b : ℕ) → bit_xor (bit_xor a b) b ≡ a
xor_again a b = xor_assoc a b b ∙ ap (bit_xor a) (xor_self b) ∙ xor_zero_r a

same_xor : (a b c : ℕ) → bit_xor a c ≡ bit_xor b c → a ≡ b
same_xor a b c e = sym (xor_again a c) ∙ ap (λ n. bit_xor n c) e ∙ xor_again b c

byte_xor-lt : (s b : ℕ) → s < 2 ^ 64 → b < 2 ^ 8 → bit_xor s b < 2 ^ 64
byte_xor-lt s b p q = xor_lt 64 s b p (omega arith)

with_byte-lt : (s b : ℕ) → with_byte s b < 2 ^ 64
with_byte-lt s b = omega arith

same_sum : (s t b : ℕ) → s < 2 ^ 64 → t < 2 ^ 64 → b < 2 ^ 8 → with_byte s b ≡ with_byte t b → s ≡ t
same_sum s t b p q r e = same_xor s t b (same_factor (bit_xor s b) (bit_xor t b) (byte_xor-lt s b p r) (byte_xor-lt t b q r) e)

same_byte : (s b c : ℕ) → s < 2 ^ 64 → b < 2 ^ 8 → c < 2 ^ 8 → with_byte s b ≡ with_byte s c → b ≡ c
same_byte s b c p q r e =
    same_xor b c s (xor_comm b s ∙ same_factor (bit_xor s b) (bit_xor s c) (byte_xor-lt s b p q) (byte_xor-lt s c p r) e ∙ xor_comm s c)

-- the same text behind lines of two sums
pub same_before : (s t : ℕ) (text : List ℕ) → s < 2 ^ 64 → t < 2 ^ 64 → AreBytes text → sum_after s text ≡ sum_after t text → s ≡ t
same_before s t [] p q bytes e = e
same_before s t (b ∷ text) p q bytes e =
    same_sum s t b p q (All-head IsByte b text bytes)
    (same_before (with_byte s b) (with_byte t b) text (with_byte-lt s b) (with_byte-lt t b) (All-tail IsByte b text bytes) e)

-- texts that differ in one byte alone
pub same_text : (s b c : ℕ) (front rest : List ℕ) → s < 2 ^ 64 → AreBytes front → AreBytes rest → b < 2 ^ 8 → c < 2 ^ 8 →
    sum_after s (front ++ b ∷ rest) ≡ sum_after s (front ++ c ∷ rest) → b ≡ c
same_text s b c [] rest p bytes others q r e = same_byte s b c p q r (same_before (with_byte s b) (with_byte s c) rest (with_byte-lt s b) (with_byte-lt s c) others e)
same_text s b c (x ∷ front) rest p bytes others q r e = same_text (with_byte s x) b c front rest (with_byte-lt s x) (All-tail IsByte x front bytes) others q r e
