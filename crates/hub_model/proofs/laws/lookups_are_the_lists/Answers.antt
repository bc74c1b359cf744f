use Rattle.hub_model.proofs.LookupLemmas.{lookups_are_the_lists}
use Rattle.hub_model.proofs.laws.lookups_are_the_lists.Goals as goal

pub returns : goal.returns
returns c = lookups_are_the_lists
