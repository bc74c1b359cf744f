use Rattle.hub_core.proofs.Common.{rules}
use Rattle.hub_core.proofs.state.State.with_hasher.Goals as goal

pub returns-clause-kept : goal.returns-clause-kept
returns-clause-kept c = rw c.with_hasher-2.ensures (search rules)
