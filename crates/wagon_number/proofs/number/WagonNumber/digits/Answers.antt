use Rattle.wagon_number.proofs.Common.{ap, ◌∙◌, digits_of, number_in, shown_digits}
use Rattle.wagon_number.proofs.DigitLemmas.{last_digits-below_ten, number_gives_the_digits}
use Rattle.wagon_number.proofs.TextLemmas.{letters-are_digits, shown_digits-letters}
use Rattle.wagon_number.proofs.number.WagonNumber.digits.Goals as goal

pub digits_shown-requires : goal.digits_shown-requires
digits_shown-requires c = rw c.letters.ensures.value (letters-are_digits (digits_of c.args.self) (last_digits-below_ten 12 c.args.self))

pub returns-clause-value : goal.returns-clause-value
returns-clause-value c =
    c.digits_shown.ensures ∙ ap shown_digits c.letters.ensures.value ∙ shown_digits-letters (digits_of c.args.self) (last_digits-below_ten 12 c.args.self)

pub returns-clause-valid : goal.returns-clause-valid
returns-clause-valid c = rw (returns-clause-value c) c.letters.ensures.number.valid

pub returns-clause-number : goal.returns-clause-number
returns-clause-number c = ap number_in (returns-clause-value c) ∙ number_gives_the_digits c.args.self c.letters.ensures.number
