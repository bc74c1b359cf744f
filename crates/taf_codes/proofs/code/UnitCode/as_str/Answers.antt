use Rattle.taf_codes.proofs.CodeLemmas.{IsAscii-unit}
use Rattle.taf_codes.proofs.code.UnitCode.as_str.Goals as goal

pub ascii_text-requires : goal.ascii_text-requires
ascii_text-requires c = IsAscii-unit c.self.inside.number c.self.invariant
