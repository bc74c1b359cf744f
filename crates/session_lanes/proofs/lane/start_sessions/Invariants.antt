use Rattle.session_lanes.proofs.Common.{◌≡◌, ◌%◌, length, map, vec_len, IsPassOf, EachAt, of_lane, HandsOut, EachLane}
use Rattle.session_lanes.proofs.lane.start_sessions.Given as goal

-- the sessions so far have their numbers, passes, readers and writers
abbrev pub invariant-loop-reader : goal.invariant-loop-reader
invariant-loop-reader g l =
    (vec_len l.starts ≡ length l.yielded)
    × EachAt (λ i s. (s.session ≡ i) × IsPassOf l.initial.lanes (i % length l.initial.lanes) s.pass) l.starts.items
    × EachLane (λ k before after. HandsOut before after (length (of_lane k (length l.initial.lanes) 0 l.starts.items))) l.initial.lanes l.lanes
    × (map (λ s. (s.reader, s.writer)) l.starts.items ≡ l.yielded)
