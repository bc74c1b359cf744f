-- JSON has no byte 0 and no newline: the text of a tree is a line.
use Rattle.journal_lines.proofs.Common.{◌≡◌, ℕ, ◌/◌, ◌%◌, zero, suc, Bool, true, false, List, [], ◌∷◌, ◌++◌, refl, ◌∙◌, arith, ◌&&◌, ◌||◌, ◌==◌, not, cond, if◌then◌else◌, nat_lt, list_all, and_from, nat_tests, list_all-append, ℤ, pos, negsuc}
use Rattle.std.specs.Char.{digit_char}
use Rattle.std.specs.Fmt.{digit_glyph, digits_onto, decimal, signed_decimal}
unfoldable use Rattle.std.specs.Fmt.{digits}
use Rattle.json.specs.Print.{escape_letter, escape, quoted}
unfoldable use Rattle.json.specs.Print.{escape_byte}
use Rattle.serde_json.specs.Data.{unsigned, negative, float, Data, null, boolean, number, string, array, object, Items, no_items, item, Members, no_members, member}
use Rattle.serde_json.specs.Written.{comma_if, compact_text, items_text, members_text}

-- a byte of a line
abbrev pub is_line_byte : ℕ → Bool
is_line_byte b = not (b == 0) && not (b == 10)

abbrev pub are_line_bytes : List ℕ → Bool
are_line_bytes = list_all is_line_byte

both : (xs ys : List ℕ) → are_line_bytes xs ≡ true → are_line_bytes ys ≡ true → are_line_bytes (xs ++ ys) ≡ true
both xs ys p q = list_all-append is_line_byte xs ys ∙ and_from (are_line_bytes xs) (are_line_bytes ys) p q

behind : (b : ℕ) (ys : List ℕ) → is_line_byte b ≡ true → are_line_bytes ys ≡ true → are_line_bytes (b ∷ ys) ≡ true
behind b ys p q = and_from (is_line_byte b) (are_line_bytes ys) p q

-- ---- numbers

glyph_is : (upper : Bool) (d : ℕ) → is_line_byte (digit_glyph upper d) ≡ true
glyph_is true d = grind (arith, nat_tests)
glyph_is false d = grind (arith, nat_tests)

if_more : (b : Bool) (xs ys : List ℕ) → are_line_bytes xs ≡ true → are_line_bytes ys ≡ true → are_line_bytes (if b then xs else ys) ≡ true
if_more true xs ys p q = p
if_more false xs ys p q = q

onto : (k base : ℕ) (upper : Bool) (n : ℕ) (acc : List ℕ) → are_line_bytes acc ≡ true → are_line_bytes (digits_onto k base upper n acc) ≡ true
onto zero base upper n acc h = h
onto (suc k) base upper n acc h =
    let more = behind (digit_glyph upper (n % base)) acc (glyph_is upper (n % base)) h in
    if_more (n / base == 0) _ _ more (onto k base upper (n / base) (digit_glyph upper (n % base) ∷ acc) more)

decimal_bytes : (n : ℕ) → are_line_bytes (decimal n) ≡ true
unfolding digits
decimal_bytes n = onto 64 10 false n [] refl

signed_bytes : (z : ℤ) → are_line_bytes (signed_decimal z) ≡ true
signed_bytes (pos n) = decimal_bytes n
signed_bytes (negsuc n) = behind 45 (decimal (suc n)) refl (decimal_bytes (suc n))

-- ---- texts

letter_is : (a b c d e f : Bool) (x : ℕ) → (a ≡ true → (x == 10) ≡ false) →
    (cond a x (cond b 98 (cond c 102 (cond d 110 (cond e 114 (cond f 116 0))))) == 10) ≡ false
letter_is true b c d e f x h = h refl
letter_is false true c d e f x h = refl
letter_is false false true d e f x h = refl
letter_is false false false true e f x h = refl
letter_is false false false false true f x h = refl
letter_is false false false false false true x h = refl
letter_is false false false false false false x h = refl

not_ten : (x : ℕ) → (escape_letter x == 10) ≡ false
not_ten x = letter_is ((x == 34) || (x == 92)) (x == 8) (x == 12) (x == 10) (x == 13) (x == 9) x (λ h. grind (arith, nat_tests))

is_from : (x : ℕ) → nat_lt 0 x ≡ true → (x == 10) ≡ false → is_line_byte x ≡ true
is_from x p q = grind (arith, nat_tests)

high_is : (x : ℕ) → nat_lt x 32 ≡ false → is_line_byte x ≡ true
high_is x h = grind (arith, nat_tests)

digit_char_is : (d : ℕ) → is_line_byte (digit_char d) ≡ true
digit_char_is d = grind (arith, nat_tests)

chosen : (b : Bool) (xs ys : List ℕ) → (b ≡ true → are_line_bytes xs ≡ true) → (b ≡ false → are_line_bytes ys ≡ true) → are_line_bytes (cond b xs ys) ≡ true
chosen true xs ys p q = p refl
chosen false xs ys p q = q refl

escape_byte_bytes : (x : ℕ) → are_line_bytes (escape_byte x) ≡ true
unfolding escape_byte
escape_byte_bytes x =
    chosen (nat_lt 0 (escape_letter x)) _ _ (λ h. behind 92 (escape_letter x ∷ []) refl (behind (escape_letter x) [] (is_from (escape_letter x) h (not_ten x)) refl))
    (λ h. chosen (nat_lt x 32) _ _
    (λ low. behind (digit_char (x / 16)) (digit_char (x % 16) ∷ []) (digit_char_is (x / 16)) (behind (digit_char (x % 16)) [] (digit_char_is (x % 16)) refl))
    (λ high. behind x [] (high_is x high) refl))

escape_bytes : (s : List ℕ) → are_line_bytes (escape s) ≡ true
escape_bytes [] = refl
escape_bytes (x ∷ xs) = both (escape_byte x) (escape xs) (escape_byte_bytes x) (escape_bytes xs)

quoted_bytes : (s : List ℕ) → are_line_bytes (quoted s) ≡ true
quoted_bytes s = both (escape s) (34 ∷ []) (escape_bytes s) refl

-- ---- trees

comma_bytes : (later : Bool) (xs : List ℕ) → are_line_bytes xs ≡ true → are_line_bytes (comma_if later ++ xs) ≡ true
comma_bytes true xs h = h
comma_bytes false xs h = h

mutual
  pub line_bytes : (d : Data) → are_line_bytes (compact_text d) ≡ true
  line_bytes null = refl
  line_bytes (boolean true) = refl
  line_bytes (boolean false) = refl
  line_bytes (number (unsigned n)) = decimal_bytes n
  line_bytes (number (negative z)) = signed_bytes z
  line_bytes (number (float x)) = refl
  line_bytes (string s) = quoted_bytes s
  line_bytes (array ds) = items_bytes false ds
  line_bytes (object ms) = members_bytes false ms

  items_bytes : (later : Bool) (ds : Items) → are_line_bytes (items_text later ds) ≡ true
  items_bytes later no_items = refl
  items_bytes later (item d ds) = comma_bytes later _ (both (compact_text d) (items_text true ds) (line_bytes d) (items_bytes true ds))

  members_bytes : (later : Bool) (ms : Members) → are_line_bytes (members_text later ms) ≡ true
  members_bytes later no_members = refl
  members_bytes later (member k d ms) =
      comma_bytes later _ (both (quoted k) (58 ∷ (compact_text d ++ members_text true ms)) (quoted_bytes k) (both (compact_text d) (members_text true ms) (line_bytes d) (members_bytes true ms)))
