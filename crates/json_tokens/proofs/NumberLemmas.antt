-- A text whose numbers are whole ones of 64 bits is that of a tree of such numbers.
use Rattle.json_tokens.proofs.Common.{◌≡◌, ℕ, zero, suc, ◌+◌, ◌/◌, ◌%◌, ◌<◌, ◌^◌, ◌==◌, List, [], ◌∷◌, ◌++◌, Bool, true, false, cond, length, Result, Ok, Err, decimal, refl, sym, ap, subst, ◌∙◌, arith, ◌&&◌, OnOk, IfOk, Some, digits, digits_onto, digit_glyph, digits_value, one-le-pow, pow-suc, and_parts, eqb-true, false≢true, decimal_is_IsNumeral, decimal_is_IsNumeral_wide, length-decimal-le, All-nil, All-cons, All-head, All-tail, Token, json_tokens, items_tokens, members_tokens, unsigned, negative, float, Data, null, boolean, number, string, array, object, Items, no_items, item, Members, no_members, member, read, outline, items_outline, members_outline, compact_text, HasSmallNumbers, ItemsHaveSmallNumbers, MembersHaveSmallNumbers, IsSmallToken, AreSmall}
use Rattle.json_tokens.proofs.ReadLemmas.{is_ordered, items_are_ordered, members_are_ordered, is_below_all, read-compact_text}

-- ---- a number is told by its decimal, if that is the decimal of a number of 64 bits

one_digit_more : (k n : ℕ) (acc more : List ℕ) (last : Bool) → (n / 10 == 0) ≡ last → (length more < k + suc (length acc) → n / 10 < 10 ^ k) → length (cond last (digit_glyph false (n % 10) ∷ acc) more) < suc k + length acc → n < 10 ^ suc k
one_digit_more k n acc more true e step h = omega (arith, eqb-true (n / 10) 0 e, one-le-pow k 10 (omega arith), pow-suc 10 k)
one_digit_more k n acc more false e step h = omega (arith, step (omega arith), pow-suc 10 k)

few_digits : (k n : ℕ) (acc : List ℕ) → length (digits_onto k 10 false n acc) < k + length acc → n < 10 ^ k
few_digits zero n acc h = absurd (omega arith)
few_digits (suc k) n acc h =
    let longer = digit_glyph false (n % 10) ∷ acc in
    one_digit_more k n acc (digits_onto k 10 false (n / 10) longer) (n / 10 == 0) refl (few_digits k (n / 10) longer) h

below : (n : ℕ) → length (decimal n) < 64 → n < 10 ^ 64
unfolding digits
below n h = few_digits 64 n [] h

small_from_decimal : (n m : ℕ) → m < 2 ^ 64 → decimal n ≡ decimal m → n < 2 ^ 64
small_from_decimal n m h e =
    let short : length (decimal m) < 64 = omega (arith, length-decimal-le 20 m (omega arith) (omega arith) h) in
    let wide : n < 10 ^ 64 = below n (subst (λ ds. length ds < 64) (sym e) short) in
    let same : n ≡ m = sym (decimal_is_IsNumeral_wide n wide).1 ∙ ap (digits_value 10) e ∙ (decimal_is_IsNumeral m h).1 in
    subst (λ k. k < 2 ^ 64) (sym same) h

-- ---- the tree of such a text

front : (ts us : List Token) → AreSmall (ts ++ us) → AreSmall ts × AreSmall us
front [] us h = (All-nil IsSmallToken, h)
front (t ∷ ts) us h =
    let rest = front ts us (All-tail IsSmallToken t (ts ++ us) h) in
    (All-cons IsSmallToken t ts (All-head IsSmallToken t (ts ++ us) h) rest.0, rest.1)

mutual
  small_tokens : (d : Data) (n : ℕ) → is_ordered d n ≡ true → AreSmall (json_tokens (outline d)) → HasSmallNumbers d
  small_tokens null n h a = tt
  small_tokens (boolean b) n h a = tt
  small_tokens (number (unsigned x)) n h a = let p = All-head IsSmallToken (Token.number (decimal x)) [] a in small_from_decimal x p.0 p.1 p.2
  small_tokens (number (negative z)) n h a = absurd (false≢true h)
  small_tokens (number (float x)) n h a = absurd (false≢true h)
  small_tokens (string s) n h a = tt
  small_tokens (array ds) zero h a = absurd (false≢true h)
  small_tokens (array ds) (suc n) h a = small_items ds n h (All-tail IsSmallToken Token.begin_array (items_tokens (items_outline ds)) a)
  small_tokens (object ms) zero h a = absurd (false≢true h)
  small_tokens (object ms) (suc n) h a = small_members ms n h (All-tail IsSmallToken Token.begin_object (members_tokens (members_outline ms)) a)

  small_items : (ds : Items) (n : ℕ) → items_are_ordered ds n ≡ true → AreSmall (items_tokens (items_outline ds)) → ItemsHaveSmallNumbers ds
  small_items no_items n h a = tt
  small_items (item d ds) n h a =
      let p = and_parts (is_ordered d n) (items_are_ordered ds n) h in
      let q = front (json_tokens (outline d)) (items_tokens (items_outline ds)) a in
      (small_tokens d n p.0 q.0, small_items ds n p.1 q.1)

  small_members : (ms : Members) (n : ℕ) → members_are_ordered ms n ≡ true → AreSmall (members_tokens (members_outline ms)) → MembersHaveSmallNumbers ms
  small_members no_members n h a = tt
  small_members (member key d ms) n h a =
      let later = members_tokens (members_outline ms) in
      let p = and_parts (is_below_all key ms) (is_ordered d n && members_are_ordered ms n) h in
      let o = and_parts (is_ordered d n) (members_are_ordered ms n) p.1 in
      let q = front (json_tokens (outline d)) later (All-tail IsSmallToken (Token.key key) (json_tokens (outline d) ++ later) a) in
      (small_tokens d n o.0 q.0, small_members ms n o.1 q.1)

-- ---- such a text is read as its tree

pub read_small : (d : Data) → is_ordered d 127 ≡ true → AreSmall (json_tokens (outline d)) → read (compact_text d) ≡ Some d
read_small d h a = read-compact_text d h (small_tokens d 127 h a)

pub read_result : {X E : Type 0} (r : Result X E) (items : X → List ℕ) (d : Data) → is_ordered d 127 ≡ true → IfOk r (λ x. items x ≡ compact_text d) → OnOk r (AreSmall (json_tokens (outline d))) → IfOk r (λ x. read (items x) ≡ Some d)
read_result (Ok x) items d h e a = ap read e ∙ read_small d h a
read_result (Err e) items d h s a = tt
