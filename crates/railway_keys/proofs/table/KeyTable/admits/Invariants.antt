use Rattle.std.proofs.Common.{◌≡◌, take}
use Rattle.railway_keys.specs.Keys.{has_digest}
use Rattle.railway_keys.proofs.table.KeyTable.admits.Given as goal

abbrev pub invariant-loop-known : goal.invariant-loop-known
invariant-loop-known l = l.admitted ≡ has_digest (take l.known-index l.known-items) l.railway l.digest
