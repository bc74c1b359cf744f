use Rattle.wagon_number.proofs.Common.{◌≡◌, length, sym, ◌∙◌, ap, with_marks}
use Rattle.wagon_number.proofs.TextLemmas.{length-text_of}
use Rattle.wagon_number.proofs.MarkLemmas.{marked_is, IsAscii-spaced}
use Rattle.wagon_number.proofs.number.WagonNumber.marked_letters.Goals as goal

pub returns-clause-value : goal.returns-clause-value
returns-clause-value c =
    let twelve : length c.letters-d.result ≡ 12 = ap length c.letters-d.ensures.value ∙ length-text_of c.args.self in
    sym (marked_is c.letters-d.result twelve) ∙ ap with_marks c.letters-d.ensures.value

pub returns-clause-ascii : goal.returns-clause-ascii
returns-clause-ascii c = IsAscii-spaced c.letters-d.result c.letters-d.ensures.ascii
