-- A text that is kept in twenty bytes, with zeros behind it.
use Rattle.std.specs.Prelude.{ℕ, ◌≡◌, ◌≤◌, ◌-◌, List, ◌++◌, length, take, replicate}

-- the bytes of a text, filled up with zeros
abbrev pub with_zeros : List ℕ → List ℕ
with_zeros text = text ++ replicate (20 - length text) 0

-- the bytes are their first `len` ones, filled up with zeros
pub record IsPadded (bytes : List ℕ) (len : ℕ) : Type 0 where
  pub within : len ≤ length bytes
  pub filled : bytes ≡ with_zeros (take len bytes)
