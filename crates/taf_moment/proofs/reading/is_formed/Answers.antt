use Rattle.taf_moment.proofs.Common.{sym, ◌∙◌, arith, codes}
use Rattle.taf_moment.proofs.TextLemmas.{fits_more}
use Rattle.taf_moment.proofs.reading.is_formed.Goals as goal

pub loop-place-preserved : goal.loop-place-preserved
loop-place-preserved c =
    rw c.zero_for_digit.ensures (sym (fits_more c.loop-place.fits c.args.letters.now (codes "0000-00-00T00:00Z") c.loop-place.place (omega arith) (omega arith)) ∙ c.loop-place.invariant)
