use Rattle.connection_handlers.proofs.Common.{◌≡◌, IsHandler}
use Rattle.connection_handlers.proofs.handler.ConnectionHandlersServeUnit.serve.Given as goal

-- the handler served some sessions, by the pass of its lane
abbrev pub invariant-loop : goal.invariant-loop
invariant-loop g l =
    (l.last.pass.inbox ≡ l.fn.start.pass.inbox) × IsHandler l.fn.start.session l.fn.start.pass l.last.tally.entries l.last.pass
