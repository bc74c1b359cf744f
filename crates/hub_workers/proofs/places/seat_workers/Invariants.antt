use Rattle.hub_workers.proofs.Common.{◌≡◌, ◌+◌, length, map, EachAt, new_seat}
use Rattle.hub_workers.proofs.places.seat_workers.Given as goal

-- the workers so far have their passes and seats
abbrev pub invariant-loop-pass : goal.invariant-loop-pass
invariant-loop-pass g l =
    (map (λ w. w.pass) l.workers.items ≡ l.yielded)
    × EachAt (λ k w. w.seat ≡ new_seat 1) l.workers.items
    × (l.seat.parts + length l.yielded ≡ l.initial.seat.parts) × (l.seat.count ≡ 0) × (l.seat.refused ≡ 0)
