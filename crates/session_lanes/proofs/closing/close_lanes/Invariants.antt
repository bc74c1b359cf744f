use Rattle.session_lanes.proofs.Common.{◌≡◌, vec_capacity, [], ◌∷◌, ◌++◌, IsKeptBy, EachPair}
use Rattle.session_lanes.proofs.closing.close_lanes.Given as goal

-- the lanes so far are closed, and the list has the room that it had
abbrev pub invariant-loop-lane : goal.invariant-loop-lane
invariant-loop-lane g l =
    EachPair (λ k lane left. IsKeptBy (lane.back ++ lane.pass ∷ []) left) l.yielded l.all.items
    × (vec_capacity l.all ≡ vec_capacity l.initial.all)
