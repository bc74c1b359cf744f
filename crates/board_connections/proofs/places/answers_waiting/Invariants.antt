use Rattle.std.proofs.Common.{◌≡◌, ◌≤◌, take}
use Rattle.board_connections.specs.Waiting.{waiting_count}
use Rattle.board_connections.proofs.places.answers_waiting.Given as goal

abbrev pub invariant-loop-place : goal.invariant-loop-place
invariant-loop-place l = (l.count ≡ waiting_count (take l.place-index l.places)) × (l.count ≤ l.place-index)
