use Rattle.call_reader.proofs.EachLemmas.{fewer}
use Rattle.call_reader.proofs.value.count_of.Goals as goal

pub items-smaller : goal.items-smaller
items-smaller c = fewer _ _ _ c.in-Some-next.ensures
