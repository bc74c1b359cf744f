use Rattle.session_serving.proofs.Common.{IsOneLine-line}
use Rattle.session_serving.proofs.EventLemmas.{line-advances}
use Rattle.session_serving.proofs.chunk.take_line.Goals as goal

pub returns-clause-advances : goal.returns-clause-advances
returns-clause-advances c = line-advances _ _ _ _ c.requires.sound c.on_line.ensures

pub returns-clause-count : goal.returns-clause-count
returns-clause-count c = (IsOneLine-line _ _ _ _ c.on_line.ensures).more

pub returns-clause-front : goal.returns-clause-front
returns-clause-front c = (IsOneLine-line _ _ _ _ c.on_line.ensures).front

pub returns-clause-id : goal.returns-clause-id
returns-clause-id c = (IsOneLine-line _ _ _ _ c.on_line.ensures).named

pub returns-clause-job : goal.returns-clause-job
returns-clause-job c = (IsOneLine-line _ _ _ _ c.on_line.ensures).jobs
