use Rattle.wagon_number.proofs.TextLemmas.{text_is_read}
use Rattle.wagon_number.proofs.number.WagonNumber.text.Goals as goal

pub returns-clause-read : goal.returns-clause-read
returns-clause-read c = rw (c.new.ensures, c.letters.ensures.value) (text_is_read c.args.self c.letters.ensures.number)
