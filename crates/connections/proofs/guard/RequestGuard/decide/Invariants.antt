use Rattle.std.proofs.Common.{◌≡◌, ◌-◌, length}
use Rattle.std.specs.Io.KnownBytes.{Keeps}
use Rattle.connections.specs.Guards.{guarded}
use Rattle.connections.specs.declared.guard.Front.TheVariants as front_is
use Rattle.connections.proofs.guard.RequestGuard.decide.Given as goal

abbrev pub invariant-loop-byte : goal.invariant-loop-byte
invariant-loop-byte g l = record {
  undecided : l.self.front ≡ front_is.Undecided;
  bytes : Keeps (guarded g.S.Source.remaining l.initial.self) (guarded g.S.Source.remaining l.self);
  counted : g.S.Source.failures l.self.source ≡ g.S.Source.failures l.initial.self.source;
}

abbrev pub decreases-loop-byte : goal.decreases-loop-byte
decreases-loop-byte g l = 9 - length l.self.held.items
