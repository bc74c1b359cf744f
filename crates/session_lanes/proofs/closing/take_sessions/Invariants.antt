use Rattle.session_lanes.proofs.Common.{◌≡◌, length, map, vec_capacity, of_lane, TakesBack, EachLane}
use Rattle.session_lanes.proofs.closing.take_sessions.Given as goal

-- the sessions so far gave back how they ended, their tallies and their passes, and both lists have the room that they had
abbrev pub invariant-loop-back : goal.invariant-loop-back
invariant-loop-back l =
    (l.ends.items ≡ map (λ s. s.end) l.yielded)
    × (l.tallies.items ≡ map (λ s. s.tally) l.yielded)
    × EachLane (λ k before after. TakesBack before after (of_lane k (length l.initial.lanes) 0 (map (λ s. s.pass) l.yielded))) l.initial.lanes l.lanes
    × (vec_capacity l.ends ≡ vec_capacity l.initial.ends)
    × (vec_capacity l.tallies ≡ vec_capacity l.initial.tallies)
