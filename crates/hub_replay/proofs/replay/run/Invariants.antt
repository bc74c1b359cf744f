use Rattle.hub_replay.proofs.Common.{◌≡◌, ◌≤◌, ◌+◌, ◌-◌, ◌*◌, ◌^◌, ℕ, List, length, take, false, Consumes, ParsedLine, IsCut, Advances, line_total}
use Rattle.hub_replay.proofs.replay.run.Given as goal

-- what was read is answered up to the beginning of a line that is kept
abbrev pub invariant-chunks : goal.invariant-chunks
invariant-chunks g l =
    (l.kept_len ≤ 65536) × (length l.buffer ≡ 2162688) × (l.total ≤ 2 ^ 40)
    × (line_total l.output.counts + 2 * l.kept_len ≤ 2 * l.total)
    × (g.R.Source.failures l.reader ≡ g.R.Source.failures l.initial.reader)
    × (g.W.Sink.failures l.writer ≡ g.W.Sink.failures l.initial.writer)
    × ((read : List ℕ) × (hs : List ParsedLine)
    × (length read ≡ l.total)
    × Consumes (g.R.Source.remaining l.initial.reader) (g.R.Source.remaining l.reader) read
    × IsCut read false hs l.skipping (take l.kept_len l.buffer)
    × Advances (g.W.Sink.contents l.initial.writer) (g.W.Sink.contents l.writer) l.initial.hub l.initial.output l.hub l.output hs)

abbrev pub decreases-chunks : goal.decreases-chunks
decreases-chunks g l = 2 ^ 40 - l.total
