use Rattle.taf_moment.proofs.Common.{◌≡◌, ◌+◌, ◌*◌, sym, ap, ◌∙◌, arith, number_in_letters}
use Rattle.taf_moment.proofs.TextLemmas.{formed_from_test, letters_are, year_from_pairs}
use Rattle.taf_moment.proofs.reading.date_shown.Goals as goal

pub two_shown-century-requires : goal.two_shown-century-requires
two_shown-century-requires c = let is = formed_from_test c.args.letters.now c.requires in record { tens = is.digit_0; ones = is.digit_1 }

pub two_shown-year-requires : goal.two_shown-year-requires
two_shown-year-requires c = let is = formed_from_test c.args.letters.now c.requires in record { tens = is.digit_2; ones = is.digit_3 }

pub two_shown-requires : goal.two_shown-requires
two_shown-requires c = let is = formed_from_test c.args.letters.now c.requires in record { tens = is.digit_5; ones = is.digit_6 }

pub two_shown-requires-2 : goal.two_shown-requires-2
two_shown-requires-2 c = let is = formed_from_test c.args.letters.now c.requires in record { tens = is.digit_8; ones = is.digit_9 }

pub returns-clause-value : goal.returns-clause-value
returns-clause-value c =
    let long = (formed_from_test c.args.letters.now c.requires).long in
    let letters = letters_are c.args.letters.now long in
    let year : 100 * c.from.result + c.from-2.result ≡ number_in_letters c.args.letters.now 0 4 = omega (arith, year_from_pairs c.args.letters.now long) in
    let month = c.two_shown.ensures.value ∙ sym (ap (λ l. number_in_letters l 5 7) letters) in
    let day = c.two_shown-2.ensures.value ∙ sym (ap (λ l. number_in_letters l 8 10) letters) in
    λ i. record { year = year i; month = month i; day = day i }
