use Rattle.board_texts.specs.Lines.{AreSeen, IsFleetPart}
use Rattle.board_texts.proofs.fleet.fleet_seen.Given as goal

-- what was seen in the parts so far
abbrev pub invariant-loop-part : goal.invariant-loop-part
invariant-loop-part g l = AreSeen (IsFleetPart l.by) l.part l.seen.items
