use Rattle.wagon_number.proofs.MarkLemmas.{marked_text_is_read, marked_reading_is_exact}
use Rattle.wagon_number.proofs.laws.marked_text_is_read.Goals as goal

pub returns : goal.returns
returns c = record { read = marked_text_is_read; exact = marked_reading_is_exact }
