use Rattle.taf_codes.specs.Equality.{decides}
use Rattle.taf_messages.proofs.SameReplyLemmas.{items}
use Rattle.taf_messages.specs.contracts.item.ItemPartialEq.TheImpl as ItemEq
use Rattle.taf_messages.proofs.equality.same_item.Goals as goal

pub returns : goal.returns
returns c = decides ItemEq.ghosts.eq items c.args.item.now c.args.other.now c.eq.result c.eq.ensures
