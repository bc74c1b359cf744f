use Rattle.taf_codes.proofs.Common.{IsUtf8-from_ascii}
use Rattle.taf_codes.proofs.text.ascii_text.Goals as goal

pub from_utf8_unchecked-requires : goal.from_utf8_unchecked-requires
from_utf8_unchecked-requires c = IsUtf8-from_ascii c.args.letters.now c.requires
