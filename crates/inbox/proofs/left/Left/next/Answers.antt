use Rattle.inbox.proofs.Common.{◌∙◌, sym}
use Rattle.inbox.proofs.CloseLemmas.{follows_some}
use Rattle.inbox.proofs.left.Left.next.Goals as goal

pub pop_as-requires-clause-rule : goal.pop_as-requires-clause-rule
pop_as-requires-clause-rule g c = follows_some _ _ _ _ (sym c.take.ensures.value ∙ c.in_ok-job.was) c.self.invariant.1
