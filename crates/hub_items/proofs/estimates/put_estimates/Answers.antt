use Rattle.hub_items.proofs.Common.{◌++◌, ◌∙◌, ap, sym, append-nil, arith, common_steps}
use Rattle.hub_items.proofs.NewsLemmas.{none_behind, one_leg_more, no_estimate_items}
use Rattle.hub_items.proofs.estimates.put_estimates.Goals as goal

pub returns-then-keeps_estimates-clause-put : goal.returns-then-keeps_estimates-clause-put
returns-then-keeps_estimates-clause-put c = grind (arith, common_steps, no_estimate_items c.args.change.now (c.keeps_estimates.ensures c.if-keeps_estimates.true))

pub loop-leg-init : goal.loop-leg-init
loop-leg-init c =
    let items = c.args.items.now.items in
    let none = none_behind c.args.change.now c.min-first.result (omega (arith, c.min-first.ensures, c.leg_index_after.ensures.value)) in
    record {
      news = sym (ap (λ l. items ++ l) none ∙ append-nil items);
      before = rw c.estimates_before-before.ensures at c.in_turn_from-each_before.ensures;
      after = rw c.estimates_after-after.ensures at c.in_turn_from-each_after.ensures;
    }

pub loop-leg-preserved : goal.loop-leg-preserved
loop-leg-preserved c = record {
  news = grind (arith, common_steps, one_leg_more c.loop-leg.leg);
  before = rw c.loop-leg.invariant.before at c.next_estimate-was.ensures.next;
  after = rw c.loop-leg.invariant.after at c.next_estimate-at.ensures.next;
}
