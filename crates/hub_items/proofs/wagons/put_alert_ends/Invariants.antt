use Rattle.hub_items.proofs.Common.{◌≡◌, ◌++◌, take, flat_map, alerts_at, state_before}
use Rattle.hub_items.proofs.wagons.put_alert_ends.Given as goal

-- those of the wagons so far
abbrev pub invariant-loop-wagon : goal.invariant-loop-wagon
invariant-loop-wagon l = l.items.items ≡ l.initial.items.items ++ flat_map (alerts_at (state_before l.from) l.from.message.now) (take l.wagon-index l.wagon-items)
