-- What is noted of the messages that were sent.
use Rattle.std.specs.Prelude.{◌≡◌, ℕ, ◌-◌, nat_eq, nat_lt, nat_le, Bool, false, ◌||◌, ◌&&◌, if◌then◌else◌, List, length, slice_get, Option, Some, None, is_some, option_and_then, bytes_eq}
use Rattle.std.specs.Option.{option_or, option_flatten, option_map_or}
use Rattle.std.specs.Map.{keys_of, lookup}
use Rattle.taf_codes.specs.declared.code.Railway.{Railway}

-- What is noted of a railway's messages: from its first number on in a row at each number its position, the positions of
-- numbers that lie aside, and how many more can lie there without memory.
pub record SentState : Type 0 where
  pub first : ℕ
  pub row : List (Option ℕ)
  pub aside : List (ℕ × ℕ)
  pub spare : ℕ

-- the position that lies in the row at a number
abbrev pub in_row : SentState → ℕ → Option ℕ
in_row s n = if nat_le s.first n then option_flatten (slice_get s.row (n - s.first)) else None

-- the position that was noted for a number
abbrev pub position_in : SentState → ℕ → Option ℕ
position_in s n = option_or (in_row s n) (lookup (nat_eq n) s.aside)

-- the number has a place in the row
abbrev pub has_place : SentState → ℕ → Bool
has_place s n = nat_le s.first n && nat_lt (n - s.first) (length s.row)

-- the number can be noted without memory
abbrev pub has_room_in : SentState → ℕ → Bool
has_room_in s n = has_place s n || nat_lt 0 s.spare

-- what is noted of each railway that sent a message
abbrev pub SentStates : Type 0
SentStates = List (Railway × SentState)

-- the railway is among them
abbrev pub has_railway : SentStates → Railway → Bool
has_railway sent_states by = is_some (lookup (bytes_eq by) sent_states)

-- the railway is at this place among all
abbrev pub IsAt : SentStates → ℕ → Railway → Type 0
IsAt sent_states place by = slice_get (keys_of sent_states) place ≡ Some by

-- the position that was noted for a name
abbrev pub position_of : SentStates → Railway → ℕ → Option ℕ
position_of sent_states by number = option_and_then (λ s. position_in s number) (lookup (bytes_eq by) sent_states)

-- the name can be noted without memory
abbrev pub has_room : SentStates → Railway → ℕ → Bool
has_room sent_states by number = option_map_or (λ s. has_room_in s number) (lookup (bytes_eq by) sent_states) false
