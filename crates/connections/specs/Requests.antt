-- Bytes that begin with a request of HTTP.
use Rattle.std.specs.Prelude.{ℕ, Bool, List, [], ◌∷◌, nat_eq, codes, if◌then◌else◌}
use Rattle.std.specs.List.{list_any, starts_with}
use Rattle.connections.specs.declared.guard.Front.{Front}
use Rattle.connections.specs.declared.guard.Front.TheVariants.{Undecided, Lines, Request}

-- the methods of HTTP, each with the blank behind it
abbrev pub methods : List (List ℕ)
methods = codes "GET " ∷ codes "HEAD " ∷ codes "POST " ∷ codes "PUT " ∷ codes "DELETE " ∷ codes "CONNECT " ∷ codes "OPTIONS " ∷ codes "TRACE " ∷ codes "PATCH " ∷ []

-- they begin with one of these
abbrev pub begin_with : List (List ℕ) → List ℕ → Bool
begin_with words bytes = list_any (λ word. starts_with nat_eq bytes word) words

-- one of these begins with them
abbrev pub are_begun_by : List (List ℕ) → List ℕ → Bool
are_begun_by words bytes = list_any (λ word. starts_with nat_eq word bytes) words

-- the bytes begin with a request: with a method and a blank
unfoldable pub is_request : List ℕ → Bool
is_request bytes = begin_with methods bytes

-- with more bytes behind them they may begin with one
unfoldable pub may_become_request : List ℕ → Bool
may_become_request bytes = are_begun_by methods bytes

-- what is known by the first bytes
abbrev pub front_of : List ℕ → Front
front_of bytes = if is_request bytes then Request else (if may_become_request bytes then Undecided else Lines)
