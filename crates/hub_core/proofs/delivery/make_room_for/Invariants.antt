use Rattle.hub_core.proofs.Common.{◌≡◌, ◌^◌, length, take, Railway, outbox_state_of, AreReady}
use Rattle.hub_core.proofs.delivery.make_room_for.Given as goal

-- what is kept stays, and the boxes of the items so far are ready
abbrev pub invariant-loop-item : goal.invariant-loop-item
invariant-loop-item l =
    ((r : Railway) → outbox_state_of l.outboxes r ≡ outbox_state_of l.fn.outboxes r) ×
    AreReady l.outboxes (2 ^ 62) (length l.items) (take l.item-index l.items)
