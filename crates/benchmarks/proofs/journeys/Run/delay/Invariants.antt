use Rattle.std.proofs.Common.{◌≡◌, ◌+◌, length}
use Rattle.benchmarks.proofs.journeys.Run.delay.Given as goal

abbrev pub invariant-loop : goal.invariant-loop
invariant-loop l = length l.self.track.events ≡ length l.fn.self.track.events + l.counter
