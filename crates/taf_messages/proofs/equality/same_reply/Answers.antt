use Rattle.taf_codes.specs.Equality.{decides}
use Rattle.taf_messages.proofs.SameReplyLemmas.{replies}
use Rattle.taf_messages.specs.contracts.reply.ReplyPartialEq.TheImpl as ReplyEq
use Rattle.taf_messages.proofs.equality.same_reply.Goals as goal

pub returns : goal.returns
returns c = decides ReplyEq.ghosts.eq replies c.args.reply.now c.args.other.now c.eq.result c.eq.ensures
