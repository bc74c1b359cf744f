use Rattle.std.proofs.Common.{◌≡◌, map, take}
use Rattle.board_texts.specs.Lines.{legs_of}
use Rattle.board_texts.proofs.lists.line_of_legs.Given as goal

-- the legs of the wagons so far
abbrev pub invariant-loop-wagon : goal.invariant-loop-wagon
invariant-loop-wagon l = l.legs.items ≡ map legs_of (take l.wagon-index l.seen)
