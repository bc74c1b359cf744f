use Rattle.hub_tables.proofs.Common.{◌≡◌, drop, find, is_busy, table_state}
use Rattle.hub_tables.proofs.wagon_checks.first_busy.Given as goal

-- the first busy one of the wagons that are left is that of all
abbrev pub invariant-loop-wagon : goal.invariant-loop-wagon
invariant-loop-wagon l = find (λ w. is_busy ((table_state l.tables).journey w)) l.wagons ≡ find (λ w. is_busy ((table_state l.tables).journey w)) (drop l.wagon-index l.wagons)
