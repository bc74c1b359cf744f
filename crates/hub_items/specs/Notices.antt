-- The notices of a message in a list.
use Rattle.std.specs.Prelude.{Bool, if◌then◌else◌, List, [], ◌∷◌, ◌++◌, bytes_eq, fold}
use Rattle.std.specs.List.{list_any}
use Rattle.taf_codes.specs.declared.code.Railway.{Railway}
use Rattle.taf_messages.specs.declared.message.Message.{Message}
use Rattle.taf_messages.specs.declared.item.ItemBody.TheVariants as item
use Rattle.hub_model.specs.declared.addressed_item.AddressedItem.{AddressedItem}

-- an item goes to the railway
abbrev pub has_item_for : List AddressedItem → Railway → Bool
has_item_for items r = list_any (λ i. bytes_eq i.to r) items

-- the items, and behind them the notice of the message for the railway, unless one goes to it
abbrev pub with_notice : Message → List AddressedItem → Railway → List AddressedItem
with_notice m items r = if has_item_for items r then items else items ++ record { to = r; body = item.Notice m } ∷ []

-- the same for each of these railways in turn
abbrev pub with_notices : Message → List Railway → List AddressedItem → List AddressedItem
with_notices m railways items = fold (with_notice m) items railways
