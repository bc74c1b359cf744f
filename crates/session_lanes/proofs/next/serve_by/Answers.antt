use Rattle.session_lanes.proofs.Common.{rules}
use Rattle.session_lanes.proofs.SessionLemmas.{ended_behind}
use Rattle.session_lanes.proofs.next.serve_by.Goals as goal

pub returns-clause-ended : goal.returns-clause-ended
returns-clause-ended g c =
    search (rules, ended_behind _ _ _ _ _ _ _ _ _ c.with_tally-session.ensures c.serve_session-served.ensures.served c.serve_session-served.ensures.explains)
