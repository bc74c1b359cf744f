-- What is read of a connection before its session begins.
use Rattle.std.specs.Prelude.{◌≡◌, ◌⊎◌, ◌+◌, ◌≤◌, ℕ, Bool, true, List, length, Option, Result, Ok, Err}
use Rattle.std.specs.Io.KnownBytes.{IsAtEnd}
use Rattle.railway_keys.specs.declared.front.Unread.{Unread}
use Rattle.railway_keys.specs.declared.front.Unread.TheVariants.{Failed, Memory}

-- the line is whole, 65,537 bytes are there, or no more come
abbrev pub IsEnough : Bool → List ℕ → Option (List ℕ) → Type 0
IsEnough is_whole held left = (is_whole ≡ true) ⊎ ((65537 ≤ length held) ⊎ IsAtEnd left)

-- one failure more where the reader failed, and else as many as before
abbrev pub failures_by : Result (Unit {0}) Unread → ℕ → ℕ
failures_by (Ok done) failures = failures
failures_by (Err Failed) failures = failures + 1
failures_by (Err Memory) failures = failures
