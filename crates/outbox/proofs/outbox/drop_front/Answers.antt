use Rattle.outbox.proofs.Common.{ap, ◌∙◌, drop, drop-drop}
use Rattle.outbox.proofs.outbox.drop_front.Goals as goal

pub loop-i-preserved : goal.loop-i-preserved
loop-i-preserved c = c.pop_front.ensures.rest ∙ ap (drop 1) c.loop-i.invariant ∙ drop-drop 1 c.loop-i.i c.args.bodies.now.items
