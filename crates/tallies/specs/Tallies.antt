-- What contracts see of a tally.
use Rattle.std.specs.Prelude.{ℕ, List}
use Rattle.tallies.specs.declared.tally.Told.{Told}

-- the entries, and how many more fit without a growth
pub record TallyState : Type 0 where
  pub entries : List Told
  pub spare : ℕ
