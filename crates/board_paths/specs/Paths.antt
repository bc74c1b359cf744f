-- The paths of what the board shows.
use Rattle.std.specs.Prelude.{◌≡◌, ℕ, true, List, [], ◌++◌, codes, Option, Some, None}
use Rattle.taf_codes.specs.Codes.{is_railway}
use Rattle.wagon_number.specs.Digits.{IsVehicleNumber, text_of}
use Rattle.board_paths.specs.declared.resource.Resource.{Resource}
use Rattle.board_paths.specs.declared.resource.Resource.TheVariants.{Entry, Page, Wagons, Legs, Wagon, WagonLegs, Health, Metrics}

-- the path of a name below a railway
abbrev pub below : List ℕ → List ℕ → List ℕ
below railway name = codes "/" ++ railway ++ codes "/" ++ name

-- the name of what is shown of a wagon
abbrev pub wagon_name : ℕ → List ℕ → List ℕ
wagon_name wagon ending = codes "wagons/" ++ text_of wagon ++ ending

-- the path of a resource
abbrev pub path_of : Resource → List ℕ
path_of Entry = codes "/"
path_of (Page railway) = below railway []
path_of (Wagons railway) = below railway (codes "wagons.json")
path_of (Legs railway) = below railway (codes "legs.json")
path_of (Wagon railway wagon) = below railway (wagon_name wagon (codes ".json"))
path_of (WagonLegs railway wagon) = below railway (wagon_name wagon (codes "/legs.json"))
path_of Health = codes "/health"
path_of Metrics = codes "/metrics"

-- the railway whose resource it is
abbrev pub railway_in : Resource → Option (List ℕ)
railway_in Entry = None
railway_in (Page railway) = Some railway
railway_in (Wagons railway) = Some railway
railway_in (Legs railway) = Some railway
railway_in (Wagon railway wagon) = Some railway
railway_in (WagonLegs railway wagon) = Some railway
railway_in Health = None
railway_in Metrics = None

-- its railway has a code and its wagon a vehicle number, as those of each resource of the program do
abbrev pub IsValid : Resource → Type 0
IsValid Entry = Unit {0}
IsValid (Page railway) = is_railway railway ≡ true
IsValid (Wagons railway) = is_railway railway ≡ true
IsValid (Legs railway) = is_railway railway ≡ true
IsValid (Wagon railway wagon) = (is_railway railway ≡ true) × IsVehicleNumber wagon
IsValid (WagonLegs railway wagon) = (is_railway railway ≡ true) × IsVehicleNumber wagon
IsValid Health = Unit {0}
IsValid Metrics = Unit {0}

-- two resources of one path are the same
abbrev pub PathsNameOneResource : Type 0
PathsNameOneResource = (r s : Resource) → IsValid r → IsValid s → path_of r ≡ path_of s → r ≡ s

-- what has a path below that of a railway is that railway's
abbrev pub WhatIsBelowIsTheRailways : Type 0
WhatIsBelowIsTheRailways = (r : Resource) (railway name : List ℕ) → IsValid r → is_railway railway ≡ true
    → path_of r ≡ below railway name → railway_in r ≡ Some railway
