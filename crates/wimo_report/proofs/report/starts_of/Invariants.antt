use Rattle.std.proofs.Common.{ℕ, List, ◌++◌, ◌-◌}
use Rattle.wimo_report.specs.Parts.{AreStarts}
use Rattle.wimo_report.proofs.report.starts_of.Given as goal

-- with more that begin from here on they are all
abbrev pub invariant-starts : goal.invariant-starts
invariant-starts l = (more : List ℕ) → AreStarts l.from l.count more → AreStarts 0 l.count (l.starts.items ++ more)

abbrev pub decreases-starts : goal.decreases-starts
decreases-starts l = l.count - l.from
