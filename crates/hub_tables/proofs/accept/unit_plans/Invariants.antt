use Rattle.hub_tables.proofs.Common.{◌≡◌, map, take}
use Rattle.hub_tables.proofs.accept.unit_plans.Given as goal

abbrev pub invariant-loop-loaded : goal.invariant-loop-loaded
invariant-loop-loaded l = l.plans.items ≡ map (λ u. (u.unit, l.plan)) (take l.loaded-index l.units)
