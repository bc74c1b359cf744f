use Rattle.journey.proofs.Common.{◌≡◌, ◌+◌, ◌++◌, take}
use Rattle.journey.proofs.legs.put_behind.Given as goal

abbrev pub invariant-loop-i : goal.invariant-loop-i
invariant-loop-i l = take (l.behind + l.i) l.items ≡ take l.behind l.initial.items ++ take l.i l.legs
