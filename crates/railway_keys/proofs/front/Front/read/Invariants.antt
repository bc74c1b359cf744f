use Rattle.std.proofs.Common.{◌≡◌, ◌-◌, ◌≤◌, length}
use Rattle.std.specs.Io.KnownBytes.{Consumes}
use Rattle.railway_keys.specs.FirstLines.{line_read}
use Rattle.railway_keys.proofs.front.Front.read.Given as goal

abbrev pub invariant-bytes : goal.invariant-bytes
invariant-bytes g l = record {
  bytes : Consumes (g.S.Source.remaining l.initial.source) (g.S.Source.remaining l.source) l.self.held.items;
  few : length l.self.held.items ≤ 65537;
  line : l.self.line ≡ line_read l.self.held.items;
  counted : g.S.Source.failures l.source ≡ g.S.Source.failures l.initial.source;
}

abbrev pub decreases-bytes : goal.decreases-bytes
decreases-bytes g l = 65537 - length l.self.held.items
