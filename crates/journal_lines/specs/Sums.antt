-- Sums of texts: FNV-1a of 64 bits, begun from the sum of the text before.
use Rattle.std.specs.Prelude.{ℕ, ◌*◌, ◌%◌, ◌^◌, ◌==◌, ◌&&◌, ◌||◌, List, length, fold, bit_xor, codes, nat_le, Bool}
use Rattle.std.specs.Int.{to_be_bytes, w64}
use Rattle.std.specs.List.{list_all}
use Rattle.hex.specs.Hex.{encode_lower}

-- a sum, with one byte more
abbrev pub with_byte : ℕ → ℕ → ℕ
with_byte sum b = (bit_xor sum b * 0x100_0000_01b3) % 2 ^ 64

-- a sum, with the bytes of a text
abbrev pub sum_after : ℕ → List ℕ → ℕ
sum_after before text = fold with_byte before text

-- what the sum of the first line begins from: it names the format and its version
abbrev pub first_sum : ℕ
first_sum = sum_after 0xcbf2_9ce4_8422_2325 (codes "taf_hub journal 1")

-- the sixteen digits of a sum, the highest first
unfoldable pub digits_of : ℕ → List ℕ
digits_of sum = encode_lower (to_be_bytes w64 sum)

-- a digit of a sum: 0 to 9, a to f
abbrev pub is_sum_digit : ℕ → Bool
is_sum_digit b = (nat_le 48 b && nat_le b 57) || (nat_le 97 b && nat_le b 102)

-- sixteen of them
abbrev pub are_sum_digits : List ℕ → Bool
are_sum_digits digits = (length digits == 16) && list_all is_sum_digit digits
