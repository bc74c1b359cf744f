-- What is kept for each railway.
use Rattle.std.specs.Prelude.{◌≡◌, ℕ, ◌+◌, ◌-◌, Bool, List, [], ◌++◌, Option, Some, None, is_some, length, drop, take, slice_get, map, max, bytes_eq}
use Rattle.std.specs.List.{enumerate_from}
use Rattle.std.specs.Map.{keys_of, lookup}
use Rattle.taf_codes.specs.declared.code.Railway.{Railway}
use Rattle.taf_messages.specs.declared.item.Item.{Item}
use Rattle.taf_messages.specs.declared.item.ItemBody.{ItemBody}

-- the number that was acknowledged, and the bodies of the items after it
pub record OutboxState : Type 0 where
  pub acknowledged : ℕ
  pub bodies : List ItemBody

-- what is kept for a railway that has no items
abbrev pub new_box : OutboxState
new_box = record { acknowledged = 0; bodies = [] }

-- what is kept in a box, and how many items more have room in it
pub record BoxState : Type 0 where
  pub kept : OutboxState
  pub room : ℕ

abbrev pub outbox_state_in : Option BoxState → OutboxState
outbox_state_in None = new_box
outbox_state_in (Some b) = b.kept

abbrev pub room_in : Option BoxState → ℕ
room_in None = 0
room_in (Some b) = b.room

-- what is kept for a railway
abbrev pub outbox_state_of : List (Railway × BoxState) → Railway → OutboxState
outbox_state_of boxes railway = outbox_state_in (lookup (bytes_eq railway) boxes)

-- how many items more have room in a railway's box: none where it has no box
abbrev pub room_for : List (Railway × BoxState) → Railway → ℕ
room_for boxes railway = room_in (lookup (bytes_eq railway) boxes)

-- the railway has a box, which may be empty
abbrev pub has_box : List (Railway × BoxState) → Railway → Bool
has_box boxes railway = is_some (lookup (bytes_eq railway) boxes)

-- the box at this place is the railway's
abbrev pub IsAt : List (Railway × BoxState) → ℕ → Railway → Type 0
IsAt boxes place railway = slice_get (keys_of boxes) place ≡ Some railway

-- the number of the last item
abbrev pub last_of : OutboxState → ℕ
last_of kept = kept.acknowledged + length kept.bodies

-- what is kept once these bodies are added
abbrev pub with_items : OutboxState → List ItemBody → OutboxState
with_items kept more = record { acknowledged = kept.acknowledged; bodies = kept.bodies ++ more }

-- what is kept once the items up to n are acknowledged
abbrev pub acknowledged_up_to : OutboxState → ℕ → OutboxState
acknowledged_up_to kept n = record { acknowledged = max kept.acknowledged n; bodies = drop (n - kept.acknowledged) kept.bodies }

-- the items of these bodies, which are numbered on from n
abbrev pub items_from_number : ℕ → List ItemBody → List Item
items_from_number n bodies = map (λ b. record { number = b.0; body = b.1 }) (enumerate_from (n + 1) bodies)

-- the first items after the acknowledged one
abbrev pub first_items : OutboxState → ℕ → List Item
first_items kept limit = items_from_number kept.acknowledged (take limit kept.bodies)
