use Rattle.taf_codes.specs.Equality.{decides}
use Rattle.taf_messages.proofs.SameReplyLemmas.{calls}
use Rattle.taf_messages.specs.contracts.call.CallPartialEq.TheImpl as CallEq
use Rattle.taf_messages.proofs.equality.same_call.Goals as goal

pub returns : goal.returns
returns c = decides CallEq.ghosts.eq calls c.args.call.now c.args.other.now c.eq.result c.eq.ensures
