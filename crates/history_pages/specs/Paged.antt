-- What a list in pages holds.
use Rattle.std.specs.Prelude.{ℕ, List}

-- the entries, oldest first, and how many more can be pushed without memory
pub record Paged (T : Type 0) : Type 0 where
  pub entries : List T
  pub spare : ℕ
