use Rattle.std.proofs.Common.{◌≡◌, ◌≤◌, ◌-◌, ◌^◌, ℕ, List, length, take, true}
use Rattle.std.specs.Io.KnownBytes.{Appends, Consumes}
use Rattle.call_lines.specs.Lines.{has_no_newline}
use Rattle.call_lines.specs.declared.parsed.ParsedLine.{ParsedLine}
use Rattle.hub_replay.specs.Lines.{IsTaken}
use Rattle.journaled_hub.specs.Answering.{LeadsTo}
use Rattle.journaled_hub.specs.Crashes.{HasGoneOn}
use Rattle.journaled_hub.specs.JournaledHubs.{history_of, IsOnDisk}
use Rattle.journaled_hub.proofs.replay.run_journaled.Given as goal

-- what was read is answered up to the beginning of a line that is kept, all calls are on the disk, nothing has failed, and a crash left
-- all that was there before
abbrev pub invariant-chunks : goal.invariant-chunks
invariant-chunks g l =
    (l.kept_len ≤ 65537) × (length l.buffer ≡ 2162689) × (l.total ≤ 2 ^ 40)
    × IsOnDisk l.hub
    × (g.R.Source.failures l.reader ≡ g.R.Source.failures l.initial.reader)
    × (g.W.Sink.failures l.writer ≡ g.W.Sink.failures l.initial.writer)
    × ((read written : List ℕ) × (lines : List ParsedLine)
    × Consumes (g.R.Source.remaining l.initial.reader) (g.R.Source.remaining l.reader) read
    × Appends (g.W.Sink.contents l.initial.writer) (g.W.Sink.contents l.writer) written
    × IsTaken read lines (take l.kept_len l.buffer)
    × (has_no_newline (take l.kept_len l.buffer) ≡ true)
    × LeadsTo (history_of l.initial.hub) lines (history_of l.hub) written
    × (length read ≡ l.total))
    × HasGoneOn l.initial.hub l.hub

abbrev pub decreases-chunks : goal.decreases-chunks
decreases-chunks g l = 2 ^ 40 - l.total
