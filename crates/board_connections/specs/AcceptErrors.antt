-- Errors of `accept`, by their numbers in Linux.
use Rattle.std.specs.Prelude.{◌≡◌, ◌⊎◌, ℤ, pos, Option, Some}

-- memory or files are wanting
abbrev pub IsWanting : Option ℤ → Type 0
IsWanting code = (code ≡ Some (pos 12)) ⊎ (code ≡ Some (pos 23)) ⊎ (code ≡ Some (pos 24)) ⊎ (code ≡ Some (pos 105))

-- the descriptor is none, or no listener's
abbrev pub IsNoListener : Option ℤ → Type 0
IsNoListener code = (code ≡ Some (pos 9)) ⊎ (code ≡ Some (pos 22)) ⊎ (code ≡ Some (pos 88)) ⊎ (code ≡ Some (pos 95))
