use Rattle.std.proofs.Common.{◌≡◌, ◌++◌, map}
use Rattle.board_texts.specs.Lines.{summary}
use Rattle.board_texts.proofs.fleet.add_summaries.Given as goal

-- the summaries of the wagons so far are added
abbrev pub invariant-loop-wagon : goal.invariant-loop-wagon
invariant-loop-wagon l = l.seen.items ≡ l.fn.seen.items ++ map summary l.yielded
