use Rattle.wagon_number.proofs.Common.{refl, last_digits}
use Rattle.wagon_number.proofs.PairLemmas.{letters_at}
use Rattle.wagon_number.proofs.pairs.two_letters.Goals as goal

pub returns : goal.returns
unfolding last_digits
returns c = let letters = letters_at c.args.number c.requires in rw (letters.0, letters.1) refl
