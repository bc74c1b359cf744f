use Rattle.hub_core.proofs.Common.{◌+◌, ◌^◌, length, take, ap, ◌∙◌, arith, subst, AddressedItem, last_of, IsReady, All-more, All-weaker, All-from_recursion, recursion_from_All}
use Rattle.hub_core.proofs.delivery.make_room_for.Goals as goal

pub loop-item-preserved : goal.loop-item-preserved
loop-item-preserved c =
    let k = c.loop-item.item-index in
    let is = c.args.items.now in
    let made = c.in_ok-make_room.ensures in
    let P : AddressedItem → Type 0 = IsReady c.loop-item.outboxes (2 ^ 62) (length is) in
    let Q : AddressedItem → Type 0 = IsReady c.make_room.new.self (2 ^ 62) (length is) in
    let before = All-weaker P Q (λ i h. (omega (arith, ap last_of (made.kept i.to), h.0), omega (arith, made.stay_roomy i.to, h.1))) (take k is) (All-from_recursion P (take k is) c.loop-item.invariant.1) in (
      (λ r. made.kept r ∙ c.loop-item.invariant.0 r),
      recursion_from_All Q (take (k + 1) is) (All-more Q is k c.item-item.result (omega (arith, c.loop-item-test.true, c.loop-item.auto)) before (subst Q c.item-item.is (made.few, made.room))),
    )
