-- By which hosts a board is asked for.
use Rattle.std.specs.Prelude.{ℕ, ◌==◌, List, [], ◌∷◌, ◌++◌, codes, decimal, if◌then◌else◌}

-- its address and its name, each with the port, and at the port of http each without it too
abbrev pub hosts_at : ℕ → List (List ℕ)
hosts_at port =
    (codes "127.0.0.1:" ++ decimal port) ∷ (codes "localhost:" ++ decimal port)
    ∷ (if port == 80 then codes "127.0.0.1" ∷ codes "localhost" ∷ [] else [])
