use Rattle.taf_codes.proofs.WordLemmas.{compared_as_number}
use Rattle.taf_codes.proofs.code.RailwayPartialEq.eq.Goals as goal

pub returns : goal.returns
returns c = compared_as_number c.args.self.now c.args.other.now _ _ c.number.ensures.back c.number-2.ensures.back c.number.ensures.read c.number-2.ensures.read
