use Rattle.std.proofs.Common.{◌≡◌, ◌++◌, take, flat_map}
use Rattle.board_answers.specs.Metrics.{refusal_line}
use Rattle.board_answers.proofs.metrics.put_each_refusal.Given as goal

-- the lines of the reasons so far are put
abbrev pub invariant-loop-why : goal.invariant-loop-why
invariant-loop-why l = l.text.items ≡ l.initial.text.items ++ flat_map (refusal_line l.whys) (take l.why-index l.every)
