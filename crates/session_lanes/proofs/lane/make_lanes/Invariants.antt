use Rattle.session_lanes.proofs.Common.{◌≡◌, vec_len, new_lane, lane_capacity, EachAt}
use Rattle.session_lanes.proofs.lane.make_lanes.Given as goal

-- so many new lanes were made
abbrev pub invariant-loop-lane : goal.invariant-loop-lane
invariant-loop-lane g l = (vec_len l.lanes ≡ l.lane) × EachAt (λ k r. r ≡ new_lane r.id (lane_capacity k l.workers l.sessions)) l.lanes.items
