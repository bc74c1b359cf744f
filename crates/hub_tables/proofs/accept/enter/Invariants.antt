use Rattle.hub_tables.proofs.Common.{◌≡◌, ◌≤◌, length, update_all, into_iter_items, into_iter_len, get, insert_all, spare}
use Rattle.hub_tables.proofs.accept.enter.Given as goal

abbrev pub invariant-loop-key : goal.invariant-loop-key
invariant-loop-key g l = record {
  entered : insert_all g.K.PartialEq.eq l.table.entries (into_iter_items l.key-iterator) ≡ insert_all g.K.PartialEq.eq l.fn.table.entries l.fn.entries.items;
  values : (q : g.row.K.Denot) → update_all g.K.PartialEq.eq (get g.K.PartialEq.eq l.table) (into_iter_items l.key-iterator) q ≡ update_all g.K.PartialEq.eq (get g.K.PartialEq.eq l.fn.table) l.fn.entries.items q;
  room : length (into_iter_items l.key-iterator) ≤ spare l.table;
  counted : into_iter_len l.key-iterator ≡ length (into_iter_items l.key-iterator);
}
