use Rattle.wagon_number.proofs.Common.{map, sym, ap, digit_char, last_digits}
use Rattle.wagon_number.proofs.PairLemmas.{last_digits-twelve}
use Rattle.wagon_number.proofs.pairs.twelve_letters.Goals as goal

pub returns : goal.returns
unfolding last_digits
returns c =
    rw (c.six_letters-front.ensures, c.six_letters-back.ensures) (sym (ap (map digit_char) (last_digits-twelve c.args.number)))
