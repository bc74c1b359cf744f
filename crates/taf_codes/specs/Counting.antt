-- A count of failures.
use Rattle.std.specs.Prelude.{ℕ, ◌+◌}
use Rattle.taf_codes.specs.declared.failures.Failures.{Failures}
use Rattle.taf_codes.specs.declared.failures.Failures.TheBlock.{Start, After'}

-- how many calls failed
abbrev pub count : Failures → ℕ
count Start = 0
count (After' marker before) = count before + 1
