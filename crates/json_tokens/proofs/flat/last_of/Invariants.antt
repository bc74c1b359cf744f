use Rattle.json_tokens.proofs.Common.{◌≡◌, take, last_under}
use Rattle.json_tokens.proofs.flat.last_of.Given as goal

-- the last one is among those that are left
abbrev pub invariant-loop-i : goal.invariant-loop-i
invariant-loop-i l = last_under l.name l.members ≡ last_under l.name (take l.i l.members)
