use Rattle.carried_hub.proofs.Common.{decides}
use Rattle.carried_hub.proofs.ItemLemmas.{bodies}
use Rattle.taf_messages.specs.contracts.item.ItemBodyPartialEq.TheImpl as ItemBodyEq
use Rattle.carried_hub.proofs.items.is_same_body.Goals as goal

pub returns : goal.returns
returns c = decides ItemBodyEq.ghosts.eq bodies c.args.body.now c.args.other.now c.eq.result c.eq.ensures
