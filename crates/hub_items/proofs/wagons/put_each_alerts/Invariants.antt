use Rattle.hub_items.proofs.Common.{◌≡◌, ◌++◌, take, flat_map, changed, alerts_at, state_before}
use Rattle.hub_items.proofs.wagons.put_each_alerts.Given as goal

-- those of the changes so far
abbrev pub invariant-loop-change : goal.invariant-loop-change
invariant-loop-change l =
    l.items.items ≡ l.initial.items.items ++ flat_map (alerts_at (state_before l.from) l.from.message.now) (changed (take l.change-index l.change-items))
