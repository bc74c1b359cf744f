use Rattle.carry_over.proofs.CarriedLemmas.{others_can_be_left_behind}
use Rattle.carry_over.proofs.laws.others_can_be_left_behind.Goals as goal

pub returns : goal.returns
returns c = others_can_be_left_behind
