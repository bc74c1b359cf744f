use Rattle.board_texts.specs.Lines.{AreSeen, IsRefusalsPart}
use Rattle.board_texts.proofs.refusals.refusals_seen.Given as goal

-- what was seen in the parts so far
abbrev pub invariant-loop-part : goal.invariant-loop-part
invariant-loop-part g l = AreSeen IsRefusalsPart l.part l.seen.items
