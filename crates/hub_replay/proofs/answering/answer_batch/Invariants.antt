use Rattle.hub_replay.proofs.Common.{◌≡◌, ◌≤◌, ◌+◌, ◌*◌, ◌++◌, List, length, All, ParsedLine, IsNotMemory, Advances, line_total}
use Rattle.hub_replay.proofs.answering.answer_batch.Given as goal

-- some are answered, and the others come next
abbrev pub invariant-loop-line : goal.invariant-loop-line
invariant-loop-line g l = record {
  reportable : All IsNotMemory l.lines.items;
  bounded : line_total l.output.counts + 2 * length l.lines.items ≤ line_total l.initial.output.counts + 2 * length l.initial.lines.items;
  kept : g.W.Sink.failures l.writer ≡ g.W.Sink.failures l.initial.writer;
  answered : (hs : List ParsedLine) × (l.initial.lines.items ≡ hs ++ l.lines.items)
      × Advances (g.W.Sink.contents l.initial.writer) (g.W.Sink.contents l.writer) l.initial.hub l.initial.output l.hub l.output hs;
}

abbrev pub decreases-loop-line : goal.decreases-loop-line
decreases-loop-line g l = length l.lines.items
