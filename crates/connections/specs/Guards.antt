-- What a guard lets through.
use Rattle.std.specs.Prelude.{ℕ, List, [], Option, option_map, if◌then◌else◌}
use Rattle.std.specs.Io.KnownBytes.{prepend_known}
use Rattle.connections.specs.Requests.{is_request}
use Rattle.connections.specs.declared.guard.Front.{Front}
use Rattle.connections.specs.declared.guard.Front.TheVariants.{Undecided, Lines, Request}
use Rattle.connections.specs.declared.guard.RequestGuard.{RequestGuard}

-- the bytes, or none where they begin with a request
abbrev pub without_request : List ℕ → List ℕ
without_request bytes = if is_request bytes then [] else bytes

-- what is let through of the bytes that are held or still to come, where they are known
abbrev pub let_through : Front → Option (List ℕ) → Option (List ℕ)
let_through Undecided known = option_map without_request known
let_through Lines known = known
let_through Request known = option_map (λ bytes. []) known

-- what a guard still lets through of a reader with these bytes
abbrev pub guarded : {S : Type 0} → (S → Option (List ℕ)) → RequestGuard S → Option (List ℕ)
guarded remaining guard = let_through guard.front (prepend_known guard.held.items (remaining guard.source))
