use Rattle.taf_codes.proofs.CodeLemmas.{IsAscii-name}
use Rattle.taf_codes.proofs.name_text.NameText.as_str.Goals as goal

pub ascii_text-requires : goal.ascii_text-requires
ascii_text-requires c = IsAscii-name _ c.self.invariant.1
