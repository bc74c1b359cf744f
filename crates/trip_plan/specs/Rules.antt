-- The rules that the parts of a plan keep.
use Rattle.std.specs.Prelude.{ℕ, ◌==◌, nat_le, nat_lt, Bool, not, ◌&&◌, List, drop, count_by, bytes_eq}
use Rattle.std.specs.List.{list_any, list_all, zip}
use Rattle.wagon_number.specs.declared.number.WagonNumber.{WagonNumber}
use Rattle.taf_codes.specs.declared.code.UnitCode.{UnitCode}
use Rattle.trip_plan.specs.declared.parts.Leg.{Leg}
use Rattle.trip_plan.specs.declared.parts.UnitLoad.{UnitLoad}

-- the wagon is among these
abbrev pub has : List WagonNumber → WagonNumber → Bool
has wagons w = list_any (λ v. v == w) wagons

-- the unit is among these loads
abbrev pub loads : List UnitLoad → UnitCode → Bool
loads units u = list_any (λ l. bytes_eq l.unit u) units

-- each leg begins where the one before it ends
abbrev pub is_connected : List Leg → Bool
is_connected legs = list_all (λ p. bytes_eq p.0.target p.1.origin) (zip legs (drop 1 legs))

-- no railway runs two legs in succession
abbrev pub changes_railway : List Leg → Bool
changes_railway legs = list_all (λ p. not (bytes_eq p.0.ru p.1.ru)) (zip legs (drop 1 legs))

-- a leg takes 1 to 100,000 minutes
abbrev pub takes_time : Leg → Bool
takes_time leg = nat_lt 0 leg.minutes && nat_le leg.minutes 100000

-- how often a wagon is named
abbrev pub times_named : List WagonNumber → WagonNumber → ℕ
times_named wagons w = count_by (λ v. v == w) wagons

-- no wagon is named twice
abbrev pub all_differ : List WagonNumber → Bool
all_differ wagons = list_all (λ w. times_named wagons w == 1) wagons

-- how often a unit is loaded
abbrev pub times_loaded : List UnitLoad → UnitCode → ℕ
times_loaded units u = count_by (λ l. bytes_eq l.unit u) units

-- no unit is loaded twice
abbrev pub units_differ : List UnitLoad → Bool
units_differ units = list_all (λ l. times_loaded units l.unit == 1) units

-- each unit is loaded on one of these wagons
abbrev pub are_aboard : List WagonNumber → List UnitLoad → Bool
are_aboard wagons units = list_all (λ l. has wagons l.wagon) units
