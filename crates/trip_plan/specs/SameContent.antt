-- The tests of legs, units and plans find exactly the equal ones.
use Rattle.std.specs.Prelude.{◌≡◌, true, ◌==◌, bytes_eq, nat_eq, refl}
use Rattle.std.specs.Cmp.{IsEquivalence}
use Rattle.std.specs.Cmp.Lexicographic.{pointwise}
use Rattle.taf_codes.specs.Equality.{IsEquality, is_equivalence, texts, numbers, lists, both}
use Rattle.trip_plan.specs.declared.parts.Load.{Load}
use Rattle.trip_plan.specs.declared.parts.Load.TheVariants.{Loaded, Empty}
use Rattle.trip_plan.specs.declared.parts.Leg.{Leg}
use Rattle.trip_plan.specs.declared.parts.UnitLoad.{UnitLoad}
use Rattle.trip_plan.specs.Trip.{Trip}
use Rattle.trip_plan.specs.Content.{same_load, same_leg, same_legs, same_unit, same_wagons, same_terms, same_lists, same_plan}

load_equal : (a b : Load) → same_load a b ≡ true → a ≡ b
load_equal Loaded Loaded h = refl
load_equal Empty Empty h = refl
load_equal Loaded Empty h = cc
load_equal Empty Loaded h = cc

load_itself : (a : Load) → same_load a a ≡ true
load_itself Loaded = refl
load_itself Empty = refl

leg_equal : (a b : Leg) → same_leg a b ≡ true → a ≡ b
leg_equal a b h =
    let one = both (bytes_eq a.ru b.ru) _ h in
    let two = both (bytes_eq a.origin b.origin) _ one.1 in
    let three = both (bytes_eq a.target b.target) _ two.1 in
    let ru = texts.equal _ _ one.0 in
    let origin = texts.equal _ _ two.0 in
    let target = texts.equal _ _ three.0 in
    let minutes = numbers.equal _ _ three.1 in
    λ i. record { ru = ru i; origin = origin i; target = target i; minutes = minutes i }

leg_itself : (a : Leg) → same_leg a a ≡ true
leg_itself a = rw (texts.itself a.ru, texts.itself a.origin, texts.itself a.target, numbers.itself a.minutes)

unit_equal : (a b : UnitLoad) → same_unit a b ≡ true → a ≡ b
unit_equal a b h =
    let one = both (bytes_eq a.unit b.unit) _ h in
    let unit = texts.equal _ _ one.0 in
    let wagon = numbers.equal _ _ one.1 in
    λ i. record { unit = unit i; wagon = wagon i }

unit_itself : (a : UnitLoad) → same_unit a a ≡ true
unit_itself a = rw (texts.itself a.unit, numbers.itself a.wagon)

units : IsEquality (pointwise same_unit)
units = lists same_unit (record { equal = unit_equal; itself = unit_itself })

pub wagons : IsEquality same_wagons
wagons = lists nat_eq numbers

pub legs : IsEquality same_legs
legs = lists same_leg (record { equal = leg_equal; itself = leg_itself })

plan_equal : (a b : Trip) → same_plan a b ≡ true → a ≡ b
plan_equal a b h =
    let halves = both (same_terms a b) (same_lists a b) h in
    let t1 = both (bytes_eq a.lead b.lead) _ halves.0 in
    let t2 = both (bytes_eq a.consignment b.consignment) _ t1.1 in
    let t3 = both (same_load a.load b.load) _ t2.1 in
    let l1 = both (same_wagons a.wagons b.wagons) _ halves.1 in
    let l2 = both (same_legs a.legs b.legs) _ l1.1 in
    let e1 = texts.equal _ _ t1.0 in
    let e2 = texts.equal _ _ t2.0 in
    let e3 = load_equal _ _ t3.0 in
    let e4 = numbers.equal _ _ t3.1 in
    let e5 = wagons.equal _ _ l1.0 in
    let e6 = legs.equal _ _ l2.0 in
    let e7 = units.equal _ _ l2.1 in
    λ i. record { lead = e1 i; consignment = e2 i; load = e3 i; commit = e4 i; wagons = e5 i; legs = e6 i; units = e7 i }

plan_itself : (a : Trip) → same_plan a a ≡ true
plan_itself a = rw (texts.itself a.lead, texts.itself a.consignment, load_itself a.load, numbers.itself a.commit, wagons.itself a.wagons, legs.itself a.legs, units.itself a.units)

pub plans : IsEquality same_plan
plans = record { equal = plan_equal; itself = plan_itself }

pub legs-is_equivalence : IsEquivalence same_legs
legs-is_equivalence = is_equivalence same_legs legs

pub plans-is_equivalence : IsEquivalence same_plan
plans-is_equivalence = is_equivalence same_plan plans
