use Rattle.std.proofs.Common.{◌≡◌, ◌-◌, false, length}
use Rattle.std.specs.Prelude.{◌^◌}
use Rattle.journal.specs.Lines.{recovered_lines, HasWholeBatches, IsNeverLeft}
use Rattle.journal.specs.Journals.{bytes_read, given_lines, IsReading}
use Rattle.journal.proofs.reader.JournalReader.next_batches.Given as goal

-- what was read behind the batches that were given is looked through
abbrev pub invariant-pieces : goal.invariant-pieces
invariant-pieces g l = record {
  reading : IsReading l.self;
  given : given_lines l.self ≡ given_lines l.initial.self;
  whole : l.self.whole ≡ l.initial.self.whole;
  found : HasWholeBatches l.self.rest.items (recovered_lines l.self.rest.items) l.found.whole l.found.torn;
  damaged : l.found.torn ≡ false → IsNeverLeft l.self.rest.items;
}

abbrev pub decreases-pieces : goal.decreases-pieces
decreases-pieces g l = 2 ^ 40 - length (bytes_read l.self)
