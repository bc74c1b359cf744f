-- Lists with room.
use Rattle.std.specs.Prelude.{◌≡◌, ℕ, ◌≤◌, [], vec_capacity, Vec}
use Rattle.std.specs.declared.alloc.Global.{Global}

-- an empty list with room for so many items
pub record IsEmptyWithRoom {X : Type 0} (list : Vec X Global) (count : ℕ) : Type 0 where
  pub empty : list.items ≡ []
  pub room : count ≤ vec_capacity list
