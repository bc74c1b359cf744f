use Rattle.hub_replay.proofs.Common.{◌≡◌, ◌≤◌, ◌-◌, length, drop, true, All, slice_range, IsNotMemory, has_no_newline, IsTaken}
use Rattle.hub_replay.proofs.batch.parse_batch.Given as goal

-- the lines before `from` are parsed, and no newline comes from there to `place`
abbrev pub invariant-lines : goal.invariant-lines
invariant-lines l = record {
  order : l.from ≤ l.place;
  bounds : l.place ≤ length l.bytes;
  scanned : has_no_newline (slice_range l.bytes l.from l.place) ≡ true;
  says : IsTaken l.bytes l.lines.items (drop l.from l.bytes);
  reportable : All IsNotMemory l.lines.items;
  few : length l.lines.items ≤ l.from;
}

abbrev pub decreases-lines : goal.decreases-lines
decreases-lines l = length l.bytes - l.place
