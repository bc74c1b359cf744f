-- A whole number, and the digits that say it.
use Rattle.json_tokens.proofs.Common.{◌≡◌, ℕ, ◌<◌, ◌==◌, ◌^◌, ◌&&◌, not, if◌then◌else◌, Bool, true, false, ℤ, Float, List, length, drop, Option, Some, None, option_and_then, refl, sym, ap, subst, ◌∙◌, slice_index, nat_lt, nat_le, SomeIff, IfSome, binary64, float_is_finite, and_parts, eqb-true, false≢true, Decides-ltb, Parts, scan, digits_of, nearest, with_sign, IsInteger, unsigned, negative, float, as_u64, number_of, number_from, float_of, is_integer}

-- ---- what is a whole number

is_whole : (p : Parts) → IsInteger p → is_integer p ≡ true
is_whole p i =
    let some : nat_lt 0 (length p.whole) ≡ true = (Decides-ltb 0 (length p.whole)).1 i.0 in
    rw (some, i.1, i.2) refl

all_three : (a b c : Bool) → (a && b && c) ≡ true → (a ≡ true) × (b ≡ true) × (c ≡ true)
all_three true true true h = (refl, refl, refl)
all_three true true false h = absurd (false≢true h)
all_three true false c h = absurd (false≢true h)
all_three false b c h = absurd (false≢true h)

not_true : (b : Bool) → not b ≡ true → b ≡ false
not_true true h = absurd (false≢true h)
not_true false h = refl

was_whole : (p : Parts) → is_integer p ≡ true → IsInteger p
was_whole p h =
    let parts = all_three (nat_lt 0 (length p.whole)) (not p.point) (length p.exponent == 0) h in
    ((Decides-ltb 0 (length p.whole)).0 parts.0, not_true p.point parts.1, eqb-true (length p.exponent) 0 parts.2)

-- ---- digits without a sign

-- they say their number
whole_spelt : (s : List ℕ) → (slice_index s 0 == 45) ≡ false → IsInteger (scan s) → digits_of (scan s) < 2 ^ 64 → number_of s ≡ Some (unsigned (digits_of (scan s)))
unfolding number_of
whole_spelt s sign i small = rw (sign, is_whole (scan s) i, (Decides-ltb (digits_of (scan s)) (2 ^ 64)).1 small) refl

pub whole_found : (s bytes : List ℕ) (p : Parts) (found : Option ℕ) → bytes ≡ s → p ≡ scan bytes → (slice_index bytes 0 == 45) ≡ false →
    SomeIff found (IsInteger p × (digits_of p < 2 ^ 64)) (digits_of p) → IfSome found (λ n. number_of s ≡ Some (unsigned n))
whole_found s bytes p None b e sign h = tt
whole_found s bytes p (Some n) b e sign h =
    ap number_of (sym b) ∙ whole_spelt bytes sign (subst IsInteger e h.0.0) (subst (λ (q : Parts). digits_of q < 2 ^ 64) e h.0.1) ∙
    ap (λ (q : Parts). Some (unsigned (digits_of q))) (sym e) ∙ ap (λ k. Some (unsigned k)) (sym h.1)

-- ---- any other number is none of these

float_or_none : (b : Bool) (x : Float) → option_and_then as_u64 (if b then Some (float x) else None) ≡ None
float_or_none true x = refl
float_or_none false x = refl

no_float : (sign : Bool) (p : Parts) → option_and_then as_u64 (float_of sign p) ≡ None
no_float sign p = float_or_none (float_is_finite (nearest binary64 sign p)) (nearest binary64 sign p)

negative_or_float : (b : Bool) (z : ℤ) (p : Parts) → option_and_then as_u64 (if b then Some (negative z) else float_of true p) ≡ None
negative_or_float true z p = refl
negative_or_float false z p = no_float true p

below_zero : (p : Parts) → option_and_then as_u64 (number_from true p) ≡ None
below_zero p = negative_or_float (is_integer p && nat_lt 0 (digits_of p) && nat_le (digits_of p) (2 ^ 63)) (with_sign true (digits_of p)) p

pub not_negative : (s : List ℕ) → (slice_index s 0 == 45) ≡ true → None ≡ option_and_then as_u64 (number_of s)
unfolding number_of
not_negative s sign = rw sign (sym (below_zero (scan (drop 1 s))))

small_or_float : (p : Parts) (b : Bool) → (is_integer p && nat_lt (digits_of p) (2 ^ 64)) ≡ b → ¬ (IsInteger p × (digits_of p < 2 ^ 64)) →
    option_and_then as_u64 (if b then Some (unsigned (digits_of p)) else float_of false p) ≡ None
small_or_float p true e h =
    let parts = and_parts (is_integer p) (nat_lt (digits_of p) (2 ^ 64)) e in
    absurd (h (was_whole p parts.0, (Decides-ltb (digits_of p) (2 ^ 64)).0 parts.1))
small_or_float p false e h = no_float false p

none_found : (s : List ℕ) → (slice_index s 0 == 45) ≡ false → ¬ (IsInteger (scan s) × (digits_of (scan s) < 2 ^ 64)) → option_and_then as_u64 (number_of s) ≡ None
unfolding number_of
none_found s sign h = rw sign (small_or_float (scan s) (is_integer (scan s) && nat_lt (digits_of (scan s)) (2 ^ 64)) refl h)

pub whole_exact : (s bytes : List ℕ) (p : Parts) (found : Option ℕ) → bytes ≡ s → p ≡ scan bytes → (slice_index bytes 0 == 45) ≡ false →
    SomeIff found (IsInteger p × (digits_of p < 2 ^ 64)) (digits_of p) → found ≡ option_and_then as_u64 (number_of s)
whole_exact s bytes p None b e sign h =
    let other = subst (λ (q : Parts). ¬ (IsInteger q × (digits_of q < 2 ^ 64))) e h in
    sym (none_found bytes sign other) ∙ ap (λ t. option_and_then as_u64 (number_of t)) b
whole_exact s bytes p (Some n) b e sign h = sym (ap (option_and_then as_u64) (whole_found s bytes p (Some n) b e sign h))
