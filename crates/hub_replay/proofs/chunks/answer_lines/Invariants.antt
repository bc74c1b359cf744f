use Rattle.hub_replay.proofs.Common.{◌≡◌, ◌<◌, ◌≤◌, ◌+◌, ◌-◌, ◌*◌, List, length, drop, ParsedLine, IsTaken, Advances, line_total, IsBatch}
use Rattle.hub_replay.proofs.chunks.answer_lines.Given as goal

-- the lines before `from` are answered, and those of the span come next
abbrev pub invariant-batches : goal.invariant-batches
invariant-batches g l =
    (l.start ≤ l.from) × (l.from ≤ length l.chunk)
    × ((0 < l.size) × (l.size ≤ 1048576))
    × IsBatch (drop l.from l.chunk) l.batch
    × (line_total l.output.counts + 2 * l.start ≤ line_total l.initial.output.counts + 2 * l.from)
    × (g.W.Sink.failures l.writer ≡ g.W.Sink.failures l.initial.writer)
    × ((hs : List ParsedLine) × IsTaken (drop l.start l.chunk) hs (drop l.from l.chunk)
    × Advances (g.W.Sink.contents l.initial.writer) (g.W.Sink.contents l.writer) l.initial.hub l.initial.output l.hub l.output hs)

abbrev pub decreases-batches : goal.decreases-batches
decreases-batches g l = length l.chunk - l.from
