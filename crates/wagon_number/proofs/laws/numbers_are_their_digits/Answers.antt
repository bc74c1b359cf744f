use Rattle.wagon_number.proofs.DigitLemmas.{digits_give_the_number, number_gives_the_digits}
use Rattle.wagon_number.proofs.laws.numbers_are_their_digits.Goals as goal

pub returns : goal.returns
returns c = record { number = digits_give_the_number; digits = number_gives_the_digits }
