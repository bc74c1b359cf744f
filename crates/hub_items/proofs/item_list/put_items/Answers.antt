use Rattle.hub_items.proofs.Common.{refl}
use Rattle.hub_items.proofs.item_list.put_items.Goals as goal

pub put_all-requires-clause-acceptable : goal.put_all-requires-clause-acceptable
put_all-requires-clause-acceptable c = rw c.get-sent.ensures (c.requires.acceptable, c.requires.gone_on)

pub returns : goal.returns
returns c = rw (c.keep_others.ensures, c.by.ensures, c.in_ok-put_all.ensures, c.get-sent.ensures) refl
