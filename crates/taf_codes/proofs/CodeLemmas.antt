-- Codes are ASCII.
use Rattle.taf_codes.proofs.Common.{◌≡◌, ℕ, ◌<◌, ◌==◌, Bool, true, ◌||◌, List, length, take, drop, arith, subst, is_ascii_digit, is_ascii_uppercase, list_all, IsAscii, and_parts, common_steps, take-append-drop, AllPass-from_list_all, IsAscii-append, IsAscii-from_all, are_letters_then_digits, has_unit_form, is_name, is_unit_code}

-- a text is ASCII where each byte passes a test that only ASCII passes
IsAscii-from_test : (test : ℕ → Bool) → ((byte : ℕ) → test byte ≡ true → byte < 128) → (text : List ℕ) → list_all test text ≡ true → IsAscii text
IsAscii-from_test test ascii text all = IsAscii-from_all text (λ k d within. ascii _ (AllPass-from_list_all test text all k d within))

pub letter_below : (byte : ℕ) → is_ascii_uppercase byte ≡ true → byte < 128
letter_below byte h = grind (arith, common_steps)

pub digit_below : (byte : ℕ) → is_ascii_digit byte ≡ true → byte < 128
digit_below byte h = grind (arith, common_steps)

name_letter_below : (byte : ℕ) → (is_ascii_uppercase byte || is_ascii_digit byte || (byte == 45)) ≡ true → byte < 128
name_letter_below byte h = grind (arith, common_steps)

IsAscii-letters_then_digits : (letters : ℕ) (text : List ℕ) → are_letters_then_digits letters text ≡ true → IsAscii text
IsAscii-letters_then_digits letters text h =
    let parts = and_parts _ _ h in
    subst IsAscii (take-append-drop letters text)
    (IsAscii-append _ _ (IsAscii-from_test is_ascii_uppercase letter_below (take letters text) parts.0) (IsAscii-from_test is_ascii_digit digit_below (drop letters text) parts.1))

pub IsAscii-unit : (text : List ℕ) → is_unit_code text ≡ true → IsAscii text
IsAscii-unit text h = IsAscii-letters_then_digits 4 text (and_parts (length text == 11) _ (and_parts (has_unit_form text) _ h).0).1

pub IsAscii-name : (text : List ℕ) → is_name text ≡ true → IsAscii text
IsAscii-name text h = IsAscii-from_test _ name_letter_below text (and_parts _ _ h).1
