use Rattle.board_connections.proofs.AnswerLemmas.{AnswersInTurn-none, AnswersInTurn-then}
use Rattle.board_connections.proofs.listener.BoardListener.serve_until_end.Goals as goal

pub loop-init : goal.loop-init
loop-init g c = AnswersInTurn-none g.S.Service.answers _

pub loop-preserved : goal.loop-preserved
loop-preserved g c = AnswersInTurn-then g.S.Service.answers _ _ _ c.loop.invariant c.handle.ensures

pub returns-in_err-handle : goal.returns-in_err-handle
returns-in_err-handle g c = AnswersInTurn-then g.S.Service.answers _ _ _ c.loop.invariant c.handle.ensures

pub returns-in_err-accept_again : goal.returns-in_err-accept_again
returns-in_err-accept_again g c = AnswersInTurn-then g.S.Service.answers _ _ _ c.loop.invariant c.handle.ensures
