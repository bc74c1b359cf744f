use Rattle.wagon_number.proofs.Common.{ap, ◌∙◌, digits_of, text_of}
use Rattle.wagon_number.proofs.DigitLemmas.{last_digits-below_ten}
use Rattle.wagon_number.proofs.TextLemmas.{IsAscii-letters}
use Rattle.wagon_number.proofs.number.WagonNumber.letters.Goals as goal

pub twelve_letters-requires : goal.twelve_letters-requires
twelve_letters-requires c = c.self.invariant.small

pub returns-clause-value : goal.returns-clause-value
returns-clause-value c = c.twelve_letters.ensures ∙ ap text_of c.self.view_is

pub returns-clause-ascii : goal.returns-clause-ascii
returns-clause-ascii c = rw (returns-clause-value c) (IsAscii-letters (digits_of c.args.self) (last_digits-below_ten 12 c.args.self))

pub returns-clause-number : goal.returns-clause-number
returns-clause-number c = rw c.self.view_is at c.self.invariant
