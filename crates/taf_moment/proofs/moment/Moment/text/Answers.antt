use Rattle.taf_moment.proofs.TextLemmas.{text_is_read}
use Rattle.taf_moment.proofs.moment.Moment.text.Goals as goal

pub returns-clause-read : goal.returns-clause-read
returns-clause-read c = rw (c.new.ensures, c.letters.ensures.value) (text_is_read c.args.self c.letters.ensures.bound)
