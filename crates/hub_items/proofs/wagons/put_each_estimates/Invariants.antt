use Rattle.hub_items.proofs.Common.{◌≡◌, ◌++◌, [], false, take, flat_map, changed, alerts_at, estimates_at, state_before}
use Rattle.hub_items.proofs.wagons.put_each_estimates.Given as goal

-- those of the changes so far; where no alert of them may begin or end, none does
abbrev pub invariant-loop-change : goal.invariant-loop-change
invariant-loop-change l = record {
  put : l.items.items ≡ l.initial.items.items ++ flat_map (estimates_at (state_before l.from) l.from.message.now) (changed (take l.change-index l.change-items));
  kept : l.may_alert ≡ false → flat_map (alerts_at (state_before l.from) l.from.message.now) (changed (take l.change-index l.change-items)) ≡ [];
}
