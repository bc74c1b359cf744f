use Rattle.wagon_number.proofs.Common.{rules, IsUtf8-from_ascii}
use Rattle.wagon_number.proofs.number.WagonNumberDisplay.fmt.Goals as goal

pub unwrap-requires : goal.unwrap-requires
unwrap-requires g c = let text = IsUtf8-from_ascii _ c.marked_letters-letters.ensures.ascii in search rules
