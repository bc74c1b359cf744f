use Rattle.wagon_number.proofs.Common.{◌≡◌, true, has_marks}
use Rattle.wagon_number.proofs.MarkLemmas.{marked_number_of-unspaced}
use Rattle.wagon_number.proofs.number.WagonNumber.read_marked.Goals as goal

pub returns : goal.returns
returns c =
    let marks : has_marks c.args.text.now ≡ true = rw (c.is_marked.ensures, c.as_bytes-text.ensures.value) at c.if-not-is_marked.false in
    rw (marked_number_of-unspaced c.args.text.now marks, ← c.as_bytes-text.ensures.value) c.from_letters.ensures
