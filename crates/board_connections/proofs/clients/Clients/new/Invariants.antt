use Rattle.std.proofs.Common.{◌≡◌}
use Rattle.board_connections.specs.Waiting.{waiting_count}
use Rattle.board_connections.proofs.clients.Clients.new.Given as goal

abbrev pub invariant-loop : goal.invariant-loop
invariant-loop l = waiting_count l.places.items ≡ 0
