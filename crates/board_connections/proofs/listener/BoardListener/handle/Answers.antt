use Rattle.board_connections.proofs.AnswerLemmas.{AnswersInTurn-none, AnswersInTurn-then}
use Rattle.board_connections.proofs.listener.BoardListener.handle.Goals as goal

pub loop-event-init : goal.loop-event-init
loop-event-init g c = AnswersInTurn-none g.S.Service.answers _

pub loop-event-preserved : goal.loop-event-preserved
loop-event-preserved g c = AnswersInTurn-then g.S.Service.answers _ _ _ c.loop-event.invariant c.handle_event.ensures

pub returns-in_err-handle_event : goal.returns-in_err-handle_event
returns-in_err-handle_event g c = AnswersInTurn-then g.S.Service.answers _ _ _ c.loop-event.invariant c.handle_event.ensures
