use Rattle.board_connections.specs.Answers.{AnswersInTurn}
use Rattle.board_connections.proofs.listener.BoardListener.handle.Given as goal

abbrev pub invariant-loop-event : goal.invariant-loop-event
invariant-loop-event g l = AnswersInTurn g.S.Service.answers l.fn.service.service l.service.service
