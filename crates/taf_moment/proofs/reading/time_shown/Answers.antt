use Rattle.taf_moment.proofs.Common.{sym, ap, ◌∙◌, number_in_letters}
use Rattle.taf_moment.proofs.TextLemmas.{formed_from_test, letters_are}
use Rattle.taf_moment.proofs.reading.time_shown.Goals as goal

pub two_shown-requires : goal.two_shown-requires
two_shown-requires c = let is = formed_from_test c.args.letters.now c.requires in record { tens = is.digit_11; ones = is.digit_12 }

pub two_shown-requires-2 : goal.two_shown-requires-2
two_shown-requires-2 c = let is = formed_from_test c.args.letters.now c.requires in record { tens = is.digit_14; ones = is.digit_15 }

pub returns-clause-hour : goal.returns-clause-hour
returns-clause-hour c =
    let letters = letters_are c.args.letters.now (formed_from_test c.args.letters.now c.requires).long in
    c.two_shown.ensures.value ∙ sym (ap (λ l. number_in_letters l 11 13) letters)

pub returns-clause-minute : goal.returns-clause-minute
returns-clause-minute c =
    let letters = letters_are c.args.letters.now (formed_from_test c.args.letters.now c.requires).long in
    c.two_shown-2.ensures.value ∙ sym (ap (λ l. number_in_letters l 14 16) letters)
