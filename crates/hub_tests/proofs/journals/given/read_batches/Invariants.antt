use Rattle.journal.specs.Journals.{IsReading}
use Rattle.hub_tests.proofs.journals.given.read_batches.Given as goal

-- the batches before are read
abbrev pub invariant-batches : goal.invariant-batches
invariant-batches g l = IsReading l.reader
