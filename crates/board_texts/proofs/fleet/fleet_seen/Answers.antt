use Rattle.std.proofs.Common.{map, refl}
use Rattle.board_texts.specs.Lines.{IsFleetPart, summary}
use Rattle.board_texts.proofs.SeenLemmas.{one_more}
use Rattle.board_texts.proofs.fleet.fleet_seen.Goals as goal

pub loop-part-preserved : goal.loop-part-preserved
loop-part-preserved g c =
    let shown = c.in_ok-shown.shown.items in
    rw c.in_ok-add_summaries.ensures
    (one_more (IsFleetPart c.args.by) c.loop-part.part c.loop-part.seen.items (map summary shown) c.loop-part.invariant
    (shown, c.in_ok-shown.ensures, refl))
