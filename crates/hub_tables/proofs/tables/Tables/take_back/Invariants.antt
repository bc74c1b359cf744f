use Rattle.hub_tables.proofs.Common.{◌≡◌, length, known_before, AreChanges}
use Rattle.hub_tables.proofs.tables.Tables.take_back.Given as goal

-- the changes that are left can be taken back, and what was known before is the same
abbrev pub invariant-loop-change : goal.invariant-loop-change
invariant-loop-change l = record {
  changes : AreChanges l.self l.changes.items;
  before : known_before l.self l.changes.items ≡ known_before l.fn.self l.fn.changes.items;
}

abbrev pub decreases-loop-change : goal.decreases-loop-change
decreases-loop-change l = length l.changes.items
