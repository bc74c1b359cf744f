use Rattle.wagon_number.proofs.Common.{◌≡◌, take, is_ascii_digit, list_all}
use Rattle.wagon_number.proofs.digits.are_digits.Given as goal

abbrev pub invariant-loop-letter : goal.invariant-loop-letter
invariant-loop-letter l = l.all ≡ list_all is_ascii_digit (take l.letter-index l.letters)
