use Rattle.wagon_number.proofs.Common.{map, sym, ap, digit_char, last_digits}
use Rattle.wagon_number.proofs.PairLemmas.{last_digits-six}
use Rattle.wagon_number.proofs.pairs.six_letters.Goals as goal

pub returns : goal.returns
unfolding last_digits
returns c =
    rw (c.two_letters-first.ensures, c.two_letters-second.ensures, c.two_letters-third.ensures) (sym (ap (map digit_char) (last_digits-six c.args.number)))
