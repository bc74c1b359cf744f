use Rattle.std.proofs.Common.{◌≡◌, ◌∙◌, sym, subst, Bool, true, false}
use Rattle.journal.specs.Lines.{is_torn, recovered_lines, HasWholeBatches}
use Rattle.journal.specs.Journals.{bytes_read, torn_bytes, whole_len}
use Rattle.journal.proofs.ReaderLemmas.{all_given, never_left_with}
use Rattle.journal.proofs.reader.JournalReader.check_end.Goals as goal

pub returns-then-torn-clause-at_end : goal.returns-then-torn-clause-at_end
returns-then-torn-clause-at_end g c =
    let reader = c.args.self.now in
    let bytes = bytes_read reader in
    record {
      ended = c.requires.ended;
      batches = subst (λ (t : Bool). HasWholeBatches bytes (recovered_lines bytes) (whole_len reader) t) c.if-torn.true
          (all_given bytes (whole_len reader) (torn_bytes reader) c.requires.reading c.args.torn c.requires.found);
    }

pub returns-else-torn-clause-damage : goal.returns-else-torn-clause-damage
returns-else-torn-clause-damage g c =
    let reader = c.args.self.now in
    let bytes = bytes_read reader in
    let not_torn : is_torn true (torn_bytes reader) ≡ false = sym c.requires.found.rest ∙ c.if-torn.false in
    let found = subst (λ (t : Bool). HasWholeBatches bytes (recovered_lines bytes) (whole_len reader) t) c.if-torn.false
    (all_given bytes (whole_len reader) (torn_bytes reader) c.requires.reading c.args.torn c.requires.found) in
    (found, never_left_with bytes (whole_len reader) (torn_bytes reader) c.requires.reading not_torn (c.requires.damaged c.if-torn.false))
