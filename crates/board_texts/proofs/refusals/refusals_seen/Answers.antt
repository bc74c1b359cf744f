use Rattle.board_texts.specs.Lines.{IsRefusalsPart}
use Rattle.board_texts.proofs.SeenLemmas.{one_more}
use Rattle.board_texts.proofs.refusals.refusals_seen.Goals as goal

pub loop-part-preserved : goal.loop-part-preserved
loop-part-preserved g c =
    rw (c.in_ok-add_all.ensures, c.as_slice.ensures.value)
    (one_more IsRefusalsPart c.loop-part.part c.loop-part.seen.items c.in_ok-whys.whys.items c.loop-part.invariant c.in_ok-whys.ensures)
