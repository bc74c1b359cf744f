-- Two plans with the same content.
use Rattle.std.specs.Prelude.{ℕ, ◌==◌, nat_eq, Bool, true, false, ◌&&◌, List, bytes_eq}
use Rattle.std.specs.Cmp.Lexicographic.{pointwise}
use Rattle.trip_plan.specs.declared.parts.Load.{Load}
use Rattle.trip_plan.specs.declared.parts.Load.TheVariants.{Loaded, Empty}
use Rattle.trip_plan.specs.declared.parts.Leg.{Leg}
use Rattle.trip_plan.specs.declared.parts.UnitLoad.{UnitLoad}
use Rattle.trip_plan.specs.Trip.{Trip}

-- the test of equal loads
abbrev pub same_load : Load → Load → Bool
same_load Loaded Loaded = true
same_load Empty Empty = true
same_load _ _ = false

-- two legs with the same fields
abbrev pub same_leg : Leg → Leg → Bool
same_leg a b = bytes_eq a.ru b.ru && (bytes_eq a.origin b.origin && (bytes_eq a.target b.target && a.minutes == b.minutes))

-- the same legs in the same order
abbrev pub same_legs : List Leg → List Leg → Bool
same_legs = pointwise same_leg

-- the same unit on the same wagon
abbrev pub same_unit : UnitLoad → UnitLoad → Bool
same_unit a b = bytes_eq a.unit b.unit && a.wagon == b.wagon

-- the same wagons in the same order
abbrev pub same_wagons : List ℕ → List ℕ → Bool
same_wagons = pointwise nat_eq

-- the same lead, consignment, load and promise to the customer
abbrev pub same_terms : Trip → Trip → Bool
same_terms a b = bytes_eq a.lead b.lead && (bytes_eq a.consignment b.consignment && (same_load a.load b.load && a.commit == b.commit))

-- the same wagons, legs and units
abbrev pub same_lists : Trip → Trip → Bool
same_lists a b = same_wagons a.wagons b.wagons && (same_legs a.legs b.legs && pointwise same_unit a.units b.units)

-- two plans with the same fields
abbrev pub same_plan : Trip → Trip → Bool
same_plan a b = same_terms a b && same_lists a b
