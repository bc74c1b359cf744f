use Rattle.board_connections.specs.Answers.{AnswersInTurn}
use Rattle.board_connections.proofs.listener.BoardListener.serve_until_end.Given as goal

abbrev pub invariant-loop : goal.invariant-loop
invariant-loop g l = AnswersInTurn g.S.Service.answers l.fn.service.service l.service.service
