-- What a limit holds.
use Rattle.std.specs.Prelude.{ℕ}

-- how many blocks of each kind
pub record Blocks : Type 0 where
  pub large : ℕ
  pub small : ℕ
