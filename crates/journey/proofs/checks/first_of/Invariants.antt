use Rattle.journey.proofs.Common.{◌≡◌, drop}
use Rattle.taf_codes.specs.Words as words
use Rattle.journey.proofs.checks.first_of.Given as goal

abbrev pub invariant-loop-applies : goal.invariant-loop-applies
invariant-loop-applies l = words.first_of l.checks ≡ words.first_of (drop l.applies-index l.checks)
