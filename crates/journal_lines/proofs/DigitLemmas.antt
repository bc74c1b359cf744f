-- The digits of a sum are digits, and stand as they are in a text.
use Rattle.journal_lines.proofs.Common.{◌≡◌, ℕ, ◌/◌, ◌%◌, ◌<◌, zero, suc, true, List, [], ◌∷◌, length, refl, arith, ◌==◌, slice_index, list_all, and_parts, and_from, nat_tests, AllPass-from_list_all, IsUtf8}
use Rattle.std.specs.Int.{bytes_high_first, byte_at}
use Rattle.std.proofs.lemmas.Str.{IsUtf8-from_ascii}
use Rattle.std.proofs.lemmas.Str.Ascii.{IsAscii-from_all}
use Rattle.hex.specs.Hex.{lower_digits}
unfoldable use Rattle.hex.specs.Hex.{encode_with}
use Rattle.json_tokens.specs.Writing.{is_plain_letter, is_plain}
use Rattle.journal_lines.specs.Sums.{is_sum_digit, are_sum_digits}
unfoldable use Rattle.journal_lines.specs.Sums.{digits_of}

digit_is : (n : ℕ) → n < 16 → is_sum_digit (slice_index lower_digits n) ≡ true
digit_is n h = AllPass-from_list_all is_sum_digit lower_digits refl n 0 h

byte_at-lt : (k n : ℕ) → byte_at k n < 256
byte_at-lt zero n = omega arith
byte_at-lt (suc k) n = omega arith

encoded : (k n : ℕ) → list_all is_sum_digit (encode_with lower_digits (bytes_high_first k n)) ≡ true
unfolding encode_with
encoded zero n = refl
encoded (suc k) n =
    let small = byte_at-lt k n in
    let b = byte_at k n in
    and_from (is_sum_digit (slice_index lower_digits (b / 16))) _ (digit_is (b / 16) (omega arith))
    (and_from (is_sum_digit (slice_index lower_digits (b % 16))) _ (digit_is (b % 16) (omega arith)) (encoded k n))

-- those of each sum are
pub sum_digits_are : (sum : ℕ) → are_sum_digits (digits_of sum) ≡ true
unfolding digits_of encode_with
sum_digits_are sum = and_from (length (digits_of sum) == 16) (list_all is_sum_digit (digits_of sum)) refl (encoded 8 sum)

-- ---- as a text

digit_is_plain : (x : ℕ) → is_sum_digit x ≡ true → is_plain_letter x ≡ true
digit_is_plain x h = grind (arith, nat_tests)

digit_is_ascii : (x : ℕ) → is_sum_digit x ≡ true → x < 128
digit_is_ascii x h = grind (arith, nat_tests)

weaker : (text : List ℕ) → list_all is_sum_digit text ≡ true → is_plain text ≡ true
weaker [] h = refl
weaker (x ∷ xs) h =
    let p = and_parts (is_sum_digit x) (list_all is_sum_digit xs) h in
    and_from (is_plain_letter x) (is_plain xs) (digit_is_plain x p.0) (weaker xs p.1)

pub digits_are_plain : (digits : List ℕ) → are_sum_digits digits ≡ true → is_plain digits ≡ true
digits_are_plain digits h = weaker digits (and_parts (length digits == 16) (list_all is_sum_digit digits) h).1

pub utf8-digits : (digits : List ℕ) → are_sum_digits digits ≡ true → IsUtf8 digits
utf8-digits digits h =
    let each = (and_parts (length digits == 16) (list_all is_sum_digit digits) h).1 in
    IsUtf8-from_ascii digits (IsAscii-from_all digits (λ k d within. digit_is_ascii _ (AllPass-from_list_all is_sum_digit digits each k d within)))
