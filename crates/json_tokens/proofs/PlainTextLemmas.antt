-- JSON shows a plain text as it is.
use Rattle.json_tokens.proofs.Common.{◌≡◌, ℕ, ◌≤◌, List, [], ◌∷◌, ◌++◌, true, refl, arith, and_parts, nat_tests, escape, escape_byte_plain, is_plain_letter, is_plain}

plain_byte : (x : ℕ) → is_plain_letter x ≡ true → ((x ≡ 34 → ⊥) × (x ≡ 92 → ⊥)) × (32 ≤ x)
plain_byte x h = ((λ e. grind (arith, nat_tests), λ e. grind (arith, nat_tests)), grind (arith, nat_tests))

-- JSON shows a plain text as it is
pub escape_plain : (text : List ℕ) → is_plain text ≡ true → escape text ≡ text
escape_plain [] h = refl
escape_plain (x ∷ xs) h =
    let p = and_parts (is_plain_letter x) (is_plain xs) h in
    let b = plain_byte x p.0 in
    λ i. escape_byte_plain x b.0.0 b.0.1 b.1 i ++ escape_plain xs p.1 i
