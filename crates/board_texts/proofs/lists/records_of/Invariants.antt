use Rattle.std.proofs.Common.{◌≡◌, map}
use Rattle.board_texts.specs.Lines.{wimo_of}
use Rattle.board_texts.proofs.lists.records_of.Given as goal

-- the records of the wagons so far
abbrev pub invariant-loop-wagon : goal.invariant-loop-wagon
invariant-loop-wagon l = l.records.items ≡ map wimo_of l.yielded
