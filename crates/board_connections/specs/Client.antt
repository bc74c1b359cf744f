-- One client.
use Rattle.std.specs.Prelude.{◌≡◌}
use Rattle.http_server.specs.Connection.{history}
use Rattle.board_connections.specs.declared.client.Client.{Client}

-- bytes of it were moved, and no more: nothing was asked of the service
pub record IsMoved (old new : Client) : Type 0 where
  pub calls : (history new.connection).calls ≡ (history old.connection).calls
  pub answer : new.has_answer ≡ old.has_answer
