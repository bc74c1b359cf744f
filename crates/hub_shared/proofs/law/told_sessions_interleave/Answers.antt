use Rattle.hub_shared.proofs.OrderLemmas.{told_in_order}
use Rattle.hub_shared.proofs.law.told_sessions_interleave.Goals as goal

pub returns : goal.returns
returns c = told_in_order
