-- Trees whose numbers are whole ones of 64 bits.
use Rattle.std.specs.Prelude.{◌≡◌, ◌<◌, ◌^◌, Some, ⊤}
use Rattle.serde_json.specs.Data.{Num, unsigned, negative, float, Data, null, boolean, number, string, array, object, Items, no_items, item, Members, no_members, member}
use Rattle.serde_json.specs.Read.{read}
use Rattle.serde_json.specs.Written.{compact_text}

-- a whole number of 64 bits
abbrev pub IsSmall : Num → Type 0
IsSmall (unsigned n) = n < 2 ^ 64
IsSmall (negative z) = ⊥
IsSmall (float x) = ⊥

-- each number of a tree is one
abbrev mutual
  pub HasSmallNumbers : Data → Type 0
  HasSmallNumbers null = ⊤
  HasSmallNumbers (boolean b) = ⊤
  HasSmallNumbers (number n) = IsSmall n
  HasSmallNumbers (string s) = ⊤
  HasSmallNumbers (array ds) = ItemsHaveSmallNumbers ds
  HasSmallNumbers (object ms) = MembersHaveSmallNumbers ms

  pub ItemsHaveSmallNumbers : Items → Type 0
  ItemsHaveSmallNumbers no_items = ⊤
  ItemsHaveSmallNumbers (item d ds) = HasSmallNumbers d × ItemsHaveSmallNumbers ds

  pub MembersHaveSmallNumbers : Members → Type 0
  MembersHaveSmallNumbers no_members = ⊤
  MembersHaveSmallNumbers (member k d ms) = HasSmallNumbers d × MembersHaveSmallNumbers ms

-- a tree's compact text is read as that tree
abbrev pub IsReadAsWritten : Data → Type 0
IsReadAsWritten d = HasSmallNumbers d → read (compact_text d) ≡ Some d
