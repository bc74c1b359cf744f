-- Where the place of a railway lies.
use Rattle.std.specs.Prelude.{ℕ, ◌+◌, ◌*◌, ◌/◌, ◌%◌, ◌^◌}
use Rattle.std.specs.List.{slice_index}
use Rattle.taf_codes.specs.declared.code.Railway.{Railway}

-- the letters of a railway as a number, the first one as its lowest byte
abbrev pub number_of : Railway → ℕ
number_of railway = slice_index railway 0 + 2 ^ 8 * slice_index railway 1 + 2 ^ 16 * slice_index railway 2 + 2 ^ 24 * slice_index railway 3

-- the slot of a railway: six bits of its number times a number that spreads the digits
abbrev pub slot_of : Railway → ℕ
slot_of railway = number_of railway * 2693801988 % 2 ^ 32 / 2 ^ 26
