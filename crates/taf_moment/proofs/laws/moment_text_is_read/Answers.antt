use Rattle.taf_moment.proofs.TextLemmas.{text_is_read, reading_is_exact}
use Rattle.taf_moment.proofs.laws.moment_text_is_read.Goals as goal

pub returns : goal.returns
returns c = record { read = text_is_read; exact = reading_is_exact }
