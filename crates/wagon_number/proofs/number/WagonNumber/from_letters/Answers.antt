use Rattle.wagon_number.proofs.Common.{◌≤◌, ◌<◌, sym, ◌∙◌, arith, rules, All-take, All-weaker}
use Rattle.wagon_number.proofs.DigitLemmas.{digits_give_the_number}
use Rattle.wagon_number.proofs.TextLemmas.{shown_digits-below_ten}
use Rattle.wagon_number.proofs.number.WagonNumber.from_letters.Goals as goal

pub digit_behind-requires-clause-digits : goal.digit_behind-requires-clause-digits
digit_behind-requires-clause-digits c =
    let below = rw (← c.digits_shown-digits.ensures) at (shown_digits-below_ten c.args.letters (sym c.are_digits.ensures ∙ c.if-not-are_digits.false)) in
    All-take (λ d. d ≤ 9) 11 c.digits_shown-digits.result (All-weaker (λ d. d < 10) (λ d. d ≤ 9) (λ d h. omega arith) c.digits_shown-digits.result below)

pub number_shown-requires : goal.number_shown-requires
number_shown-requires c =
    let below = rw (← c.digits_shown-digits.ensures) at (shown_digits-below_ten c.args.letters (sym c.are_digits.ensures ∙ c.if-not-are_digits.false)) in
    All-weaker (λ d. d < 10) (λ d. d ≤ 9) (λ d h. omega arith) c.digits_shown-digits.result below

pub invariant_of-result : goal.invariant_of-result
invariant_of-result c =
    let below = rw (← c.digits_shown-digits.ensures) at (shown_digits-below_ten c.args.letters (sym c.are_digits.ensures ∙ c.if-not-are_digits.false)) in
    let is = digits_give_the_number c.digits_shown-digits.result (record { twelve = search rules; digits = below; last = c.if-digits-digit_behind.false ∙ c.digit_behind.ensures }) in
    rw c.number_shown.ensures is.0
