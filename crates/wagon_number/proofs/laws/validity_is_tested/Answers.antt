use Rattle.wagon_number.proofs.ValidityLemmas.{validity_is_tested}
use Rattle.wagon_number.proofs.laws.validity_is_tested.Goals as goal

pub returns : goal.returns
returns c = validity_is_tested
