use Rattle.journal_lines.proofs.Common.{◌∙◌, ap}
use Rattle.hex.specs.Hex.{encode_lower}
unfoldable use Rattle.journal_lines.specs.Sums.{digits_of}
use Rattle.journal_lines.proofs.line.digits_of.Goals as goal

pub returns : goal.returns
unfolding digits_of
returns c = c.in-Ok.ensures.written ∙ ap encode_lower c.to_be_bytes.ensures
