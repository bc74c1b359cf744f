-- Limits of lists.
use Rattle.std.specs.Prelude.{nat_lt, nat_le, ◌&&◌, Bool, List, length}
use Rattle.wagon_number.specs.declared.number.WagonNumber.{WagonNumber}
use Rattle.trip_plan.specs.Rules.{all_differ}

-- 1 to 60 wagons, all different
abbrev pub may_be_offered : List WagonNumber → Bool
may_be_offered wagons = nat_lt 0 (length wagons) && (nat_le (length wagons) 60 && all_differ wagons)
