use Rattle.std.proofs.Common.{slice_set, Some, refl, ap}
use Rattle.accept_queue.proofs.state.QueueState.begin.Goals as goal

-- the connection that was taken is the one that waited longest, and taking it changed no session
pub returns-clause-begins : goal.returns-clause-begins
returns-clause-begins g c =
    let taken = c.in_ok-connection in (
      taken.field-0,
      taken.ensures.oldest,
      refl,
      ap (λ sessions. slice_set sessions c.args.handler (Some taken.field-0.connection.control)) taken.ensures.sessions,
    )
