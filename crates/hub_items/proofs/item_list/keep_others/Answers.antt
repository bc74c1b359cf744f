use Rattle.hub_items.proofs.Common.{◌≡◌, sym, false, arith, common_steps, rules, filter_same, has_item_for}
use Rattle.hub_items.proofs.NoticeLemmas.{none_taken_out}
use Rattle.hub_items.proofs.item_list.keep_others.Goals as goal

pub returns-then-has_item_for : goal.returns-then-has_item_for
returns-then-has_item_for c = filter_same _ _ _ (λ x b f' k. search rules) _ _ c.retain.ensures.filtered

pub returns-else-has_item_for : goal.returns-else-has_item_for
returns-else-has_item_for c =
    let items = c.args.items.now.items in
    let none : has_item_for items c.args.sender ≡ false = grind (arith, common_steps, c.deref.ensures, c.has_item_for.ensures, c.if-has_item_for.false) in
    sym (none_taken_out items c.args.sender none)
