-- Clients for whom an answer waits.
use Rattle.std.specs.Prelude.{ℕ, Bool, false, List, Option, Some, None, count_by}
use Rattle.board_connections.specs.declared.client.Client.{Client}

-- a client has the place, and an answer of the service may wait for it
abbrev pub has_answer : Option Client → Bool
has_answer None = false
has_answer (Some client) = client.has_answer

-- for how many clients an answer may wait
abbrev pub waiting_count : List (Option Client) → ℕ
waiting_count places = count_by has_answer places
