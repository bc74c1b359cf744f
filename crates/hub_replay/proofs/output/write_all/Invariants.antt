use Rattle.hub_replay.proofs.Common.{◌≡◌, ◌++◌, ℕ, List, length, Appends}
use Rattle.hub_replay.proofs.output.write_all.Given as goal

-- what was taken, and then what is left to write
abbrev pub invariant-loop-rest : goal.invariant-loop-rest
invariant-loop-rest g l = (front : List ℕ) × (l.bytes ≡ front ++ l.rest) × Appends (g.W.Sink.contents l.initial.writer) (g.W.Sink.contents l.writer) front × (g.W.Sink.failures l.writer ≡ g.W.Sink.failures l.initial.writer)

abbrev pub decreases-loop-rest : goal.decreases-loop-rest
decreases-loop-rest g l = length l.rest
