use Rattle.hub_items.proofs.Common.{◌≡◌, ℕ, ◌∙◌, arith, common_steps, get_or, subst, state_before, IsTransitionBy}
use Rattle.hub_items.proofs.wagon_change.WagonChange.alone.Goals as goal

pub returns : goal.returns
returns c =
    let from = c.args.from in
    let first : (get_or from.changes.now 0 c.index-from-0.result).wagon ≡ c.args.wagon = grind (arith, common_steps, c.requires.acceptable.1.wagons ∙ c.requires.alone) in
    subst (λ (w : ℕ). IsTransitionBy (state_before from) from.message.now w c.of.result) first c.of.ensures
