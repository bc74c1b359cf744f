-- All items of a message, before those for its sender are taken out.
use Rattle.std.specs.Prelude.{ℕ, List, ◌++◌, flat_map}
use Rattle.taf_messages.specs.declared.message.Message.{Message}
use Rattle.hub_model.specs.declared.addressed_item.AddressedItem.{AddressedItem}
use Rattle.hub_model.specs.HubState.{HubState, named_wagons, journey_after}
use Rattle.hub_model.specs.Items.{notices, estimate_items, alert_items}
use Rattle.hub_tables.specs.TableStates.{IsAcceptable}
use Rattle.hub_tables.specs.Changes.{HasGoneOn, known_before}
use Rattle.hub_items.specs.declared.acceptable.Acceptable.{Acceptable}

-- what was known before the message
abbrev pub state_before : Acceptable → HubState
state_before from = known_before from.tables.now from.changes.now

-- the message may be accepted, and the journeys of its wagons have gone on by it
abbrev pub MayBeAccepted : Acceptable → Type 0
MayBeAccepted from = IsAcceptable (state_before from) from.message.now × HasGoneOn (state_before from) from.tables.now from.message.now from.changes.now

-- the estimates of a wagon that are news with the message, and its alerts
abbrev pub estimates_at : HubState → Message → ℕ → List AddressedItem
estimates_at s m w = estimate_items (s.journey w) (journey_after s m w) w

abbrev pub alerts_at : HubState → Message → ℕ → List AddressedItem
alerts_at s m w = alert_items (s.journey w) (journey_after s m w) w

-- the notices, the estimates that are news, and the alerts
abbrev pub all_items : HubState → Message → List AddressedItem
all_items s m = notices s m ++ flat_map (estimates_at s m) (named_wagons s.offer m) ++ flat_map (alerts_at s m) (named_wagons s.offer m)
