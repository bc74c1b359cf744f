use Rattle.carried_hub.proofs.CarriedLemmas.{more_added}
use Rattle.carried_hub.proofs.calls.give_acknowledgements.Goals as goal

pub loop-railway-preserved : goal.loop-railway-preserved
loop-railway-preserved g c =
    let done = c.in_ok-give_acknowledgement.ensures in
    record { journaled = done.journaled; given = more_added _ _ _ c.loop-railway.invariant.given done.given }
