use Rattle.carry_over.proofs.CarriedLemmas.{others_do_not_matter, others_are_apart}
use Rattle.carry_over.proofs.laws.others_do_not_matter.Goals as goal

pub returns : goal.returns
returns c = record { same = others_do_not_matter; apart = others_are_apart }
