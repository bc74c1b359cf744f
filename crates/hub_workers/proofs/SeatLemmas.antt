-- Numbers of seats, added up.
use Rattle.hub_workers.proofs.Common.{◌≡◌, ℕ, zero, suc, ◌+◌, List, [], ◌∷◌, length, map, sum_by, refl, ap, arith, sum_by-cons, SeatState, EachAt}

-- seats of one part each
pub parts_sum : {W : Type 0} (seat_of : W → SeatState) (ws : List W) → EachAt (λ k w. (seat_of w).parts ≡ 1) ws → sum_by (λ (s : SeatState). s.parts) (map seat_of ws) ≡ length ws
parts_sum seat_of [] each = refl
parts_sum seat_of (w ∷ ws) each =
    let more = sum_by-cons (λ (s : SeatState). s.parts) (seat_of w) (map seat_of ws) in
    let head = each zero w (omega arith) in
    let rest = parts_sum seat_of ws (λ k d low. each (suc k) d (omega (arith, low))) in
    omega (arith, more, head, rest)

-- a number that each item has, by what it is mapped to
pub sum_of_map : {W V : Type 0} (f : V → ℕ) (g : W → V) (ws : List W) → sum_by (λ w. f (g w)) ws ≡ sum_by f (map g ws)
sum_of_map f g [] = refl
sum_of_map f g (w ∷ ws) =
    let a = sum_by-cons (λ v. f (g v)) w ws in
    let b = sum_by-cons f (g w) (map g ws) in
    let rest = sum_of_map f g ws in
    omega (arith, a, b, rest)
