use Rattle.wimo.proofs.Common.{◌≡◌, take}
use Rattle.wimo.specs.Records as records
use Rattle.wimo.proofs.record.units_on.Given as goal

abbrev pub invariant-loop-loaded : goal.invariant-loop-loaded
invariant-loop-loaded l = l.units.items ≡ records.units_among (take l.loaded-index l.loads) l.wagon
