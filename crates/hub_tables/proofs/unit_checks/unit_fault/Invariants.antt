use Rattle.hub_tables.proofs.Common.{◌≡◌, drop, unit_fault, table_state}
use Rattle.hub_tables.proofs.unit_checks.unit_fault.Given as goal

-- the first busy unit of those that are left is that of all
abbrev pub invariant-loop-load : goal.invariant-loop-load
invariant-loop-load l = unit_fault (table_state l.tables) l.units ≡ unit_fault (table_state l.tables) (drop l.load-index l.units)
