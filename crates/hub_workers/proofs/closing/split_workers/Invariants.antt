use Rattle.hub_workers.proofs.Common.{◌≡◌, map, vec_capacity}
use Rattle.hub_workers.proofs.closing.split_workers.Given as goal

-- the workers so far gave their passes and seats, and the lists have the room that they had
abbrev pub invariant-loop-back : goal.invariant-loop-back
invariant-loop-back g l =
    (l.passes.items ≡ map (λ w. w.pass) l.yielded)
    × (l.seats.items ≡ map (λ w. w.seat) l.yielded)
    × (vec_capacity l.passes ≡ vec_capacity l.initial.passes)
    × (vec_capacity l.seats ≡ vec_capacity l.initial.seats)
