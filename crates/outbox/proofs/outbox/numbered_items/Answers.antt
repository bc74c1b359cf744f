use Rattle.outbox.proofs.Common.{◌≡◌, ◌+◌, [], ◌∷◌, ◌++◌, length, refl, ap, ◌∙◌, arith, length_push, deque_iter_rest, Item, ItemBody}
use Rattle.outbox.proofs.NumberLemmas.{numbered_more, first_numbered}
use Rattle.outbox.proofs.outbox.numbered_items.Goals as goal

pub loop-i-preserved : goal.loop-i-preserved
loop-i-preserved c =
    let items = c.loop-i.items.items in
    let step = c.in-Some.ensures.steps in
    let fewer = ap length step in
    let number = c.loop-i.number + 1 in
    let item : ItemBody → Item = λ body. record { number = number; body = body } in
    let put = c.push_reserved.ensures.items ∙ ap (λ body. items ++ item body ∷ []) c.in_ok-body.ensures in
    record {
      whole = numbered_more items _ c.loop-i.number number c.in-Some.body.now (deque_iter_rest c.loop-i.rest) (deque_iter_rest c.next.new.self) _ c.loop-i.invariant.whole step refl put;
      count = omega (arith, ap length put, length_push items (item c.in-Some.body.now));
      room = omega (arith, fewer);
      last = omega (arith, fewer);
    }

pub returns : goal.returns
returns c =
    c.from_vec-2.ensures ∙ first_numbered c.loop-i.items.items c.args.before c.loop-i.number c.args.limit c.args.bodies.now.items (deque_iter_rest c.loop-i.rest) c.loop-i.invariant.whole (omega arith)
