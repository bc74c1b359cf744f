use Rattle.hub_items.proofs.Common.{◌≡◌, take, with_notices}
use Rattle.hub_model.specs.Items as of
use Rattle.hub_items.proofs.each.put_for_runners.Given as goal

-- the railways of the legs so far
abbrev pub invariant-loop-leg : goal.invariant-loop-leg
invariant-loop-leg l = l.items.items ≡ with_notices l.notice (of.runners (take l.leg-index l.legs)) l.initial.items.items
