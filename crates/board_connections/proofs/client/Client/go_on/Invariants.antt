use Rattle.std.proofs.Common.{◌≡◌}
use Rattle.http_server.specs.Connection.{history}
use Rattle.http_server.specs.Exchange.{Calls}
use Rattle.board_connections.specs.LimitedService.{AnswersLimited}
use Rattle.board_connections.proofs.client.Client.go_on.Given as goal

abbrev pub invariant-loop : goal.invariant-loop
invariant-loop g l =
    Calls (AnswersLimited g.S.Service.answers) l.fn.service l.service (history l.fn.self.connection).calls (history l.self.connection).calls
    × (l.self.has_answer ≡ l.fn.self.has_answer)
