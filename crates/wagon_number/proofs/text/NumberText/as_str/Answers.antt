use Rattle.wagon_number.proofs.Common.{IsUtf8-from_ascii}
use Rattle.wagon_number.proofs.text.NumberText.as_str.Goals as goal

pub from_utf8_unchecked-requires : goal.from_utf8_unchecked-requires
from_utf8_unchecked-requires c = IsUtf8-from_ascii _ c.self.invariant
