use Rattle.std.proofs.Common.{◌≤◌}
use Rattle.board_connections.specs.Waiting.{waiting_count}
use Rattle.board_connections.proofs.places.close_late.Given as goal

abbrev pub invariant-loop-place : goal.invariant-loop-place
invariant-loop-place l = waiting_count l.places ≤ waiting_count l.fn.places
