use Rattle.session_lanes.proofs.Common.{◌≡◌, ◌<◌, ◌≤◌, [], ◌∷◌, length, get_or, TakesBack}
use Rattle.session_lanes.proofs.closing.take_passes.Given as goal

-- the lanes of the workers so far took their passes back, and the others are as they were
abbrev pub invariant-loop-back : goal.invariant-loop-back
invariant-loop-back l =
    (l.lane ≡ length l.yielded)
    × ((k : _) (d : _) (e : _) → k < length l.yielded → TakesBack (get_or l.initial.lanes k d) (get_or l.lanes k d) (get_or l.yielded k e ∷ []))
    × ((k : _) (d : _) → length l.yielded ≤ k → get_or l.lanes k d ≡ get_or l.initial.lanes k d)
