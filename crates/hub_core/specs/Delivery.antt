-- Items on their way into the outboxes, and who has been given any.
use Rattle.std.specs.Prelude.{◌≡◌, ℕ, ◌<◌, ◌≤◌, false, List, [], bytes_eq}
use Rattle.std.specs.List.{AllByRecursion, list_any}
use Rattle.taf_codes.specs.declared.code.Railway.{Railway}
use Rattle.outbox.specs.OutboxStates.{BoxState, outbox_state_of, room_for, last_of}
use Rattle.hub_model.specs.declared.addressed_item.AddressedItem.{AddressedItem}
use Rattle.hub_model.specs.HubState.{HubState}

-- the item's box has a last number below k, and room for n items more
abbrev pub IsReady : List (Railway × BoxState) → ℕ → ℕ → AddressedItem → Type 0
IsReady boxes k n i = (last_of (outbox_state_of boxes i.to) < k) × (n ≤ room_for boxes i.to)

-- so has the box of each of these
abbrev pub AreReady : List (Railway × BoxState) → ℕ → ℕ → List AddressedItem → Type 0
AreReady boxes k n items = AllByRecursion (IsReady boxes k n) items

-- each railway that has been given an item is one of these
abbrev pub HaveAllItems : List Railway → HubState → Type 0
HaveAllItems railways s = (r : Railway) → list_any (bytes_eq r) railways ≡ false → s.outbox r ≡ []
