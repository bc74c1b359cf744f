-- What a plan says, and what may be wrong with it.
use Rattle.std.specs.Prelude.{ℕ, ◌≡◌, ◌≤◌, ◌==◌, nat_lt, Bool, not, ◌||◌, List, [], ◌∷◌, length, Option, Some, None, Result, Ok, Err}
use Rattle.std.specs.List.{list_all}
use Rattle.wagon_number.specs.declared.number.WagonNumber.{WagonNumber}
use Rattle.taf_moment.specs.declared.moment.Moment.{Moment}
use Rattle.taf_codes.specs.declared.code.Railway.{Railway}
use Rattle.taf_codes.specs.declared.name.ConsignmentId.{ConsignmentId}
use Rattle.taf_codes.specs.Words.{first_of}
use Rattle.trip_plan.specs.declared.fault.PlanFault.{PlanFault}
use Rattle.trip_plan.specs.declared.fault.PlanFault.TheVariants.{BadPlan, Memory}
use Rattle.trip_plan.specs.declared.parts.Load.{Load}
use Rattle.trip_plan.specs.declared.parts.Leg.{Leg}
use Rattle.trip_plan.specs.declared.parts.UnitLoad.{UnitLoad}
use Rattle.trip_plan.specs.Rules.{is_connected, changes_railway, takes_time, all_differ, units_differ, are_aboard}

-- what a plan says
pub record Trip : Type 0 where
  pub lead : Railway
  pub consignment : ConsignmentId
  pub load : Load
  -- the moment that was promised to the customer
  pub commit : Moment
  pub wagons : List WagonNumber
  pub legs : List Leg
  -- the intermodal units, in order
  pub units : List UnitLoad

-- what may be wrong with a plan, in the order of the checks
abbrev pub plan_checks : List WagonNumber → List Leg → List UnitLoad → List (Bool × ℕ)
plan_checks wagons legs units =
    (length legs == 0 || nat_lt 8 (length legs), 1) ∷
    (not (is_connected legs), 2) ∷
    (not (changes_railway legs), 3) ∷
    (length wagons == 0 || nat_lt 60 (length wagons), 4) ∷
    (not (all_differ wagons), 5) ∷
    (not (list_all takes_time legs), 6) ∷
    (not (units_differ units), 7) ∷
    (not (are_aboard wagons units), 8) ∷ []

-- the first rule that a plan of these breaks
abbrev pub broken_rule : List WagonNumber → List Leg → List UnitLoad → Option ℕ
broken_rule wagons legs units = first_of (plan_checks wagons legs units)

-- what is wrong with a plan, if anything is
abbrev pub plan_fault : Trip → Option ℕ
plan_fault p = broken_rule p.wagons p.legs p.units

-- a plan breaks no rule, and loads at most 120 units
pub record IsPlan (p : Trip) : Type 0 where
  pub sound : plan_fault p ≡ None
  pub few_units : length p.units ≤ 120

-- the plan that says this, or the first rule that it breaks; memory is refused to a good plan alone
abbrev pub Plans : Result Trip PlanFault → Trip → Type 0
Plans (Ok plan) p = (plan ≡ p) × (plan_fault p ≡ None)
Plans (Err (BadPlan code)) p = plan_fault p ≡ Some code
Plans (Err Memory) p = plan_fault p ≡ None

-- what may be wrong with a route, in the order of the checks
abbrev pub route_checks : List Leg → List (Bool × ℕ)
route_checks legs =
    (length legs == 0 || nat_lt 7 (length legs), 1) ∷
    (not (is_connected legs), 2) ∷
    (not (changes_railway legs), 3) ∷
    (not (list_all takes_time legs), 6) ∷ []

-- what is wrong with a route, if anything is
abbrev pub route_fault : List Leg → Option ℕ
route_fault legs = first_of (route_checks legs)

-- a route breaks no rule
abbrev pub IsRoute : List Leg → Type 0
IsRoute legs = route_fault legs ≡ None

-- the route of these legs, or the first rule that they break; memory is refused to a good route alone
abbrev pub Routes : Result (List Leg) PlanFault → List Leg → Type 0
Routes (Ok route) legs = (route ≡ legs) × (route_fault legs ≡ None)
Routes (Err (BadPlan code)) legs = route_fault legs ≡ Some code
Routes (Err Memory) legs = route_fault legs ≡ None
