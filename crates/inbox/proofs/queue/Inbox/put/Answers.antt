use Rattle.inbox.proofs.StepLemmas.{puts_alone, could}
use Rattle.inbox.proofs.queue.Inbox.put.Goals as goal

pub push_as-requires-clause-rule : goal.push_as-requires-clause-rule
push_as-requires-clause-rule g c = (puts_alone _ _ _ _ c.pass.invariant.1, could _ _)
