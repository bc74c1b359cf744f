-- How the entries lie in pages.
use Rattle.std.specs.Prelude.{◌≡◌, ◌<◌, ◌≤◌, ◌^◌, List, ◌++◌, length, All, vec_capacity}
use Rattle.std.specs.List.{flat_map}
use Rattle.history_pages.specs.declared.pages.Pages.TheInside.{Inside}

-- the entries of the full pages, one page after another, and then those of the current page
abbrev pub entries_in : {T : Type 0} → Inside T → List T
entries_in p = flat_map (λ page. page.items) p.full.items ++ p.current.items

-- a full page has 1,024 entries, the current one that many places or none yet, and the entries can be counted
pub record AreInPlace {T : Type 0} (p : Inside T) : Type 0 where
  pub full : All (λ page. length page.items ≡ 1024) p.full.items
  pub current : 0 < vec_capacity p.current → vec_capacity p.current ≡ 1024
  pub few : length (entries_in p) ≤ 2 ^ 62
