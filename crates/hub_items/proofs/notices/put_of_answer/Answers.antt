use Rattle.hub_items.proofs.Common.{arith, common_steps, state_before}
use Rattle.hub_items.proofs.ChangeLemmas.{answer_receivers}
use Rattle.hub_items.proofs.notices.put_of_answer.Goals as goal

pub returns : goal.returns
returns c =
    let from = c.args.from in
    rw (answer_receivers (state_before from) from.tables.now from.message.now c.args.answer.now c.requires.acceptable.1.known c.requires.answer) (grind (arith, common_steps))
