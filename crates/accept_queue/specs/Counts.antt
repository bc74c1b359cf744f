-- How many connections are served.
use Rattle.std.specs.Prelude.{ℕ, List, length, filter, Option, is_some}

-- how many of these handlers serve a connection
abbrev pub served_of : {T : Type 0} → List (Option T) → ℕ
served_of sessions = length (filter (λ session. is_some session) sessions)
