use Rattle.taf_codes.specs.Equality.{decides}
use Rattle.taf_messages.proofs.SameLemmas.{messages}
use Rattle.taf_messages.specs.contracts.message.MessagePartialEq.TheImpl as MessageEq
use Rattle.taf_messages.proofs.equality.same.Goals as goal

pub returns-clause-equality : goal.returns-clause-equality
returns-clause-equality c = decides MessageEq.ghosts.eq messages c.args.message.now c.args.other.now c.eq.result c.eq.ensures
