use Rattle.outbox.proofs.Common.{◌≡◌, ◌+◌, ◌-◌, ◌≤◌, ◌++◌, min, length, vec_len, vec_capacity, deque_iter_rest, items_from_number}
use Rattle.outbox.proofs.outbox.numbered_items.Given as goal

abbrev pub invariant-loop-i : goal.invariant-loop-i
invariant-loop-i l = record {
  whole : l.items.items ++ items_from_number l.number (deque_iter_rest l.rest) ≡ items_from_number l.before l.bodies.items;
  count : length l.items.items ≡ l.i;
  room : vec_len l.items + min (length (deque_iter_rest l.rest)) (l.limit - l.i) ≤ vec_capacity l.items;
  last : l.number + length (deque_iter_rest l.rest) ≡ l.before + length l.bodies.items;
}
