use Rattle.board_file.proofs.EscapeLemmas.{no_escaped}
use Rattle.board_file.proofs.law.no_text_ends_its_element.Goals as goal

pub returns : goal.returns
returns c = no_escaped
