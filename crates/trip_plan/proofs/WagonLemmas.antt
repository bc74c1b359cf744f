-- How many wagons a plan has that breaks no rule.
use Rattle.std.proofs.Common.{◌≡◌, ℕ, ◌<◌, ◌≤◌, Bool, true, false, zero, suc, List, ◌∷◌, length, None, refl, arith}
use Rattle.std.specs.Prelude.{◌==◌, ◌||◌, drop, nat_lt}
use Rattle.std.proofs.lemmas.Bool.{ltb-false}
use Rattle.taf_codes.specs.Words.{first_of}
use Rattle.trip_plan.specs.Trip.{Trip, plan_fault, plan_checks}

-- the fourth of some checks, none of which applies
fourth : (a b c d : Bool) (rest : List (Bool × ℕ)) → first_of ((a, 1) ∷ (b, 2) ∷ (c, 3) ∷ (d, 4) ∷ rest) ≡ None → d ≡ false
fourth true b c d rest h = cc
fourth false true c d rest h = cc
fourth false false true d rest h = cc
fourth false false false true rest h = cc
fourth false false false false rest h = refl

pub neither : (a b : Bool) → (a || b) ≡ false → (a ≡ false) × (b ≡ false)
neither true b h = cc
neither false b h = (refl, h)

positive : (n : ℕ) → (n == 0) ≡ false → 0 < n
positive zero h = cc
positive (suc n) h = omega arith

pub few_wagons : (p : Trip) → plan_fault p ≡ None → (0 < length p.wagons) × (length p.wagons ≤ 60)
few_wagons p sound =
    let counted = neither (length p.wagons == 0) (nat_lt 60 (length p.wagons)) (fourth _ _ _ _ (drop 4 (plan_checks p.wagons p.legs p.units)) sound) in
    (positive (length p.wagons) counted.0, ltb-false 60 (length p.wagons) counted.1)
