use Rattle.inbox.proofs.StepLemmas.{begins}
use Rattle.inbox.proofs.queue.Inbox.new.Goals as goal

pub ruled-requires-clause-rule : goal.ruled-requires-clause-rule
ruled-requires-clause-rule g c = begins
