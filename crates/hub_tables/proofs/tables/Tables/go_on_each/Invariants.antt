use Rattle.hub_tables.proofs.Common.{◌≡◌, ◌≤◌, drop, length, take, vec_capacity, vec_len, table_state, HaveGoneOn}
use Rattle.hub_model.specs.Faults as of
use Rattle.hub_tables.proofs.tables.Tables.go_on_each.Given as goal

-- the journeys of the wagons so far have gone on, the first fault of the others is that of all, and the list has room for all
abbrev pub invariant-loop-wagon : goal.invariant-loop-wagon
invariant-loop-wagon l = record {
  gone_on : HaveGoneOn (table_state l.fn.self) l.self l.message (take l.wagon-index l.wagons) l.changes.items;
  faults : of.first_fault (table_state l.fn.self) l.message l.wagons ≡ of.first_fault (table_state l.fn.self) l.message (drop l.wagon-index l.wagons);
  counted : vec_len l.changes ≤ l.wagon-index;
  room : length l.wagons ≤ vec_capacity l.changes;
}
