use Rattle.hub_threads.proofs.Common.{◌≡◌, vec_capacity, EachPair}
use Rattle.hub_threads.proofs.threads.join_each.Given as goal

-- the threads so far are joined, and the list has the room that it had
abbrev pub invariant-loop-handle : goal.invariant-loop-handle
invariant-loop-handle g l =
    EachPair (λ k h r. g.P.Promise.kept_by h.promise r) l.yielded l.joined.items
    × (vec_capacity l.joined ≡ vec_capacity l.initial.joined)
