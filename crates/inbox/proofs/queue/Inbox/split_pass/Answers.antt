use Rattle.inbox.proofs.Common.{rules}
use Rattle.inbox.proofs.StepLemmas.{forks_alone}
use Rattle.inbox.proofs.queue.Inbox.split_pass.Goals as goal

pub another-other-requires-clause-rule : goal.another-other-requires-clause-rule
another-other-requires-clause-rule g c = forks_alone _ _ c.pass.invariant.1 (search rules)
