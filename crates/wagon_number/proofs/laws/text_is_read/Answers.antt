use Rattle.wagon_number.proofs.TextLemmas.{text_is_read, reading_is_exact}
use Rattle.wagon_number.proofs.laws.text_is_read.Goals as goal

pub returns : goal.returns
returns c = record { read = text_is_read; exact = reading_is_exact }
