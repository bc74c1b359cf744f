use Rattle.session_lanes.proofs.Common.{◌≡◌, ◌<◌, ◌≤◌, vec_len, get_or, IsPassOf, EachAt, HandsOut}
use Rattle.session_lanes.proofs.places.hand_out_each.Given as goal

-- the lanes so far handed out a pass each, and the others are as they were
abbrev pub invariant-loop-lane : goal.invariant-loop-lane
invariant-loop-lane g l =
    (vec_len l.passes ≡ l.lane-index)
    × EachAt (λ k t. IsPassOf l.initial.lanes k t) l.passes.items
    × ((k : _) (d : _) → k < l.lane-index → HandsOut (get_or l.initial.lanes k d) (get_or l.lanes k d) 1)
    × ((k : _) (d : _) → l.lane-index ≤ k → get_or l.lanes k d ≡ get_or l.initial.lanes k d)
