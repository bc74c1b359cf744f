use Rattle.board_connections.proofs.WaitingLemmas.{taken_none, taken_some}
use Rattle.board_connections.proofs.places.take.Goals as goal

pub returns-clause-none : goal.returns-clause-none
returns-clause-none c = taken_none _ _ _ _ c.take_at.ensures.value c.take_at.ensures.after

pub returns-clause-some : goal.returns-clause-some
returns-clause-some c = taken_some _ _ _ _ c.take_at.ensures.value c.take_at.ensures.after
