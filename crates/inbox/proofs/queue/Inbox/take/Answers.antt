use Rattle.inbox.proofs.StepLemmas.{takes_alone, could}
use Rattle.inbox.proofs.queue.Inbox.take.Goals as goal

pub pop_as-requires-clause-rule : goal.pop_as-requires-clause-rule
pop_as-requires-clause-rule g c = (takes_alone _ _ c.pass.invariant.1, could _ _)
