-- The text of a message's tree is UTF-8, and its numbers are below 2^64.
use Rattle.reply_writer.proofs.Common.{◌≡◌, ℕ, ◌<◌, ◌≤◌, ◌||◌, List, [], ◌∷◌, ◌++◌, Bool, true, false, Ok, IsUtf8, refl, ap, subst, arith, take, drop, nat_lt, lt-ltb, Result, Err, if◌then◌else◌, ⊤, map, codes, is_ascii_digit, is_ascii_uppercase, list_all, and_parts, ltb-true, IsAscii-decimal, common_steps, take-append-drop, bytes_eq-Decides, AllPass-from_list_all, IsUtf8-append, IsUtf8-nil, IsUtf8-from_ascii, IsAscii-from_all, quoted, are_ascii, IsUtf8-are_ascii, IsUtf8-quoted, IsUtf8-boolean, comma_if, compact_text, items_text, members_text, IsVehicleNumber, digits_of, text_of, BadMoment, last_minute, moment_text, digit_as_zero, is_moment, has_form, minutes_shown, is_railway, is_place, is_name, is_unit_code, are_code_letters, are_letters_then_digits, IsAscii-unit, IsAscii-name, letter_below, digit_below, IsSmall, HasSmallNumbers, ItemsHaveSmallNumbers, MembersHaveSmallNumbers}
use Rattle.serde_json.specs.Data.{unsigned, negative, float, Data, null, boolean, number, string, array, object, Items, no_items, item, Members, no_members, member}
use Rattle.wagon_number.proofs.TextLemmas as letters
use Rattle.taf_moment.proofs.TextLemmas as moments

-- ---- trees whose keys and texts are UTF-8

abbrev mutual
  pub HasTexts : Data → Type 0
  HasTexts null = ⊤
  HasTexts (boolean b) = ⊤
  HasTexts (number n) = IsSmall n
  HasTexts (string s) = IsUtf8 s
  HasTexts (array ds) = ItemsHaveTexts ds
  HasTexts (object ms) = MembersHaveTexts ms

  pub ItemsHaveTexts : Items → Type 0
  ItemsHaveTexts no_items = ⊤
  ItemsHaveTexts (item d ds) = HasTexts d × ItemsHaveTexts ds

  pub MembersHaveTexts : Members → Type 0
  MembersHaveTexts no_members = ⊤
  MembersHaveTexts (member k d ms) = (are_ascii k ≡ true) × HasTexts d × MembersHaveTexts ms

mutual
  pub small-HasTexts : (d : Data) → HasTexts d → HasSmallNumbers d
  small-HasTexts null h = tt
  small-HasTexts (boolean b) h = tt
  small-HasTexts (number n) h = h
  small-HasTexts (string s) h = tt
  small-HasTexts (array ds) h = items-small ds h
  small-HasTexts (object ms) h = members-small ms h

  items-small : (ds : Items) → ItemsHaveTexts ds → ItemsHaveSmallNumbers ds
  items-small no_items h = tt
  items-small (item d ds) h = (small-HasTexts d h.0, items-small ds h.1)

  members-small : (ms : Members) → MembersHaveTexts ms → MembersHaveSmallNumbers ms
  members-small no_members h = tt
  members-small (member k d ms) h = (small-HasTexts d h.1, members-small ms h.2)

-- one letter before a text
after_letter : (letter : ℕ) (text : List ℕ) → are_ascii (letter ∷ []) ≡ true → IsUtf8 text → IsUtf8 (letter ∷ text)
after_letter letter text h u = IsUtf8-append (letter ∷ []) text (IsUtf8-are_ascii (letter ∷ []) h) u

after_comma : (later : Bool) (text : List ℕ) → IsUtf8 text → IsUtf8 (comma_if later ++ text)
after_comma true text u = after_letter 44 text refl u
after_comma false text u = u

mutual
  pub utf8-compact_text : (d : Data) → HasTexts d → IsUtf8 (compact_text d)
  utf8-compact_text null h = IsUtf8-are_ascii _ refl
  utf8-compact_text (boolean b) h = IsUtf8-boolean b
  utf8-compact_text (number (unsigned n)) h = IsUtf8-from_ascii _ (IsAscii-decimal n h)
  utf8-compact_text (number (negative z)) h = absurd h
  utf8-compact_text (number (float x)) h = absurd h
  utf8-compact_text (string s) h = IsUtf8-quoted s h
  utf8-compact_text (array ds) h = after_letter 91 _ refl (utf8-items_text false ds h)
  utf8-compact_text (object ms) h = after_letter 123 _ refl (utf8-members_text false ms h)

  utf8-items_text : (later : Bool) (ds : Items) → ItemsHaveTexts ds → IsUtf8 (items_text later ds)
  utf8-items_text later no_items h = IsUtf8-are_ascii _ refl
  utf8-items_text later (item d ds) h = after_comma later _ (IsUtf8-append (compact_text d) _ (utf8-compact_text d h.0) (utf8-items_text true ds h.1))

  utf8-members_text : (later : Bool) (ms : Members) → MembersHaveTexts ms → IsUtf8 (members_text later ms)
  utf8-members_text later no_members h = IsUtf8-are_ascii _ refl
  utf8-members_text later (member k d ms) h =
      after_comma later _ (IsUtf8-append (quoted k) _ (IsUtf8-quoted k (IsUtf8-are_ascii k h.0))
      (after_letter 58 _ refl (IsUtf8-append (compact_text d) _ (utf8-compact_text d h.1) (utf8-members_text true ms h.2))))

-- ---- codes, vehicle numbers and moments

from_test : (test : ℕ → Bool) → ((letter : ℕ) → test letter ≡ true → letter < 128) → (text : List ℕ) → list_all test text ≡ true → IsUtf8 text
from_test test below text h = IsUtf8-from_ascii text (IsAscii-from_all text (λ k d within. below _ (AllPass-from_list_all test text h k d within)))

code_letter : (letter : ℕ) → (is_ascii_uppercase letter || is_ascii_digit letter) ≡ true → letter < 128
code_letter letter h = grind (arith, common_steps)

pub utf8-railway : (by : List ℕ) → is_railway by ≡ true → IsUtf8 by
utf8-railway by h = from_test _ code_letter by (and_parts _ (are_code_letters by) h).1

pub utf8-name : (name : List ℕ) → is_name name ≡ true → IsUtf8 name
utf8-name name h = IsUtf8-from_ascii name (IsAscii-name name h)

pub utf8-unit : (unit : List ℕ) → is_unit_code unit ≡ true → IsUtf8 unit
utf8-unit unit h = IsUtf8-from_ascii unit (IsAscii-unit unit h)

pub utf8-wagon : (w : ℕ) → IsVehicleNumber w → IsUtf8 (text_of w)
utf8-wagon w h = IsUtf8-from_ascii _ (letters.IsAscii-letters (digits_of w) h.valid.digits)

pub utf8-place : (place : List ℕ) → is_place place ≡ true → IsUtf8 place
utf8-place place h =
    let parts = and_parts (list_all is_ascii_uppercase (take 2 place)) (list_all is_ascii_digit (drop 2 place)) (and_parts _ (are_letters_then_digits 2 place) h).1 in
    subst IsUtf8 (take-append-drop 2 place) (IsUtf8-append _ _ (from_test is_ascii_uppercase letter_below (take 2 place) parts.0) (from_test is_ascii_digit digit_below (drop 2 place) parts.1))

-- a letter that is a digit, or as its form
formed_letter : (letter : ℕ) (b : Bool) → is_ascii_digit letter ≡ b → nat_lt (if b then 48 else letter) 128 ≡ true → letter < 128
formed_letter letter true is h = digit_below letter is
formed_letter letter false is h = ltb-true letter 128 h

utf8-formed : (text : List ℕ) → are_ascii (map digit_as_zero text) ≡ true → IsUtf8 text
utf8-formed [] h = IsUtf8-nil
utf8-formed (c ∷ cs) h =
    let parts = and_parts (nat_lt (digit_as_zero c) 128) (are_ascii (map digit_as_zero cs)) h in
    let below : c < 128 = formed_letter c (is_ascii_digit c) refl parts.0 in
    after_letter c cs (rw (lt-ltb c 128 below) refl) (utf8-formed cs parts.1)

abbrev of_moment : ℕ → Result ℕ BadMoment
of_moment m = Ok m

read_if : (b : Bool) (n m : ℕ) → (if b then Ok n else Err (record {})) ≡ of_moment m → b ≡ true
read_if true n m h = refl
read_if false n m h = absurd (cc)

pub utf8-moment : (m : ℕ) → m ≤ last_minute → IsUtf8 (moment_text m)
utf8-moment m h =
    let text = moment_text m in
    let is : is_moment text ≡ true = read_if (is_moment text) (minutes_shown text) m (moments.text_is_read m h) in
    let form = and_parts (has_form text) _ (and_parts _ _ (and_parts _ _ is).0).0 in
    let same = (bytes_eq-Decides (map digit_as_zero text) (codes "0000-00-00T00:00Z")).0 form.0 in
    utf8-formed text (ap are_ascii same)
