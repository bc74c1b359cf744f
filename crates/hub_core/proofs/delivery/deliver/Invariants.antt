use Rattle.hub_core.proofs.Common.{◌≡◌, ◌+◌, ◌^◌, ◌++◌, length, drain_items, Railway, outbox_state_of, with_items, items_to, AreReady}
use Rattle.hub_core.proofs.delivery.deliver.Given as goal

-- the items so far are in the boxes, the others are ready, and both are all
abbrev pub invariant-loop-item : goal.invariant-loop-item
invariant-loop-item l =
    ((r : Railway) → outbox_state_of l.outboxes r ≡ with_items (outbox_state_of l.fn.outboxes r) (items_to r l.yielded)) ×
    AreReady l.outboxes (2 ^ 62 + length l.yielded) (length (drain_items l.item-iterator)) (drain_items l.item-iterator) ×
    (l.yielded ++ drain_items l.item-iterator ≡ l.fn.items.items)
