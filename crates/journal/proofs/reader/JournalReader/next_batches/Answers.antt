use Rattle.std.proofs.Common.{◌∙◌, refl, sym, subst, List, ℕ}
use Rattle.journal.specs.Lines.{recovered_lines, HasWholeBatches, IsNeverLeft}
use Rattle.journal.proofs.reader.JournalReader.next_batches.Goals as goal

pub pieces-init : goal.pieces-init
pieces-init g c =
    let found = c.find_batches-found.ensures in
    let whole = c.find_batches-found.result.whole in
    let torn = c.find_batches-found.result.torn in
    record {
      reading = c.requires;
      given = refl;
      whole = refl;
      found = subst (λ (b : List ℕ). HasWholeBatches b (recovered_lines b) whole torn) c.as_slice.ensures.value found.found;
      damaged = λ not_torn. subst IsNeverLeft c.as_slice.ensures.value (found.damaged not_torn);
    }

pub pieces-preserved : goal.pieces-preserved
pieces-preserved g c =
    let found = c.find_batches-found-in-pieces.ensures in
    let whole = c.find_batches-found-in-pieces.result.whole in
    let torn = c.find_batches-found-in-pieces.result.torn in
    let more = c.read_more.ensures in
    record {
      reading = more.reading;
      given = more.given ∙ c.pieces.invariant.given;
      whole = more.whole ∙ c.pieces.invariant.whole;
      found = subst (λ (b : List ℕ). HasWholeBatches b (recovered_lines b) whole torn) c.as_slice-in-pieces.ensures.value found.found;
      damaged = λ not_torn. subst IsNeverLeft c.as_slice-in-pieces.ensures.value (found.damaged not_torn);
    }

pub check_end-requires-clause-damaged : goal.check_end-requires-clause-damaged
check_end-requires-clause-damaged g c not_torn =
    subst IsNeverLeft (sym (c.in_ok-read_more.ensures.none c.if-branch-eq0.true)) (c.pieces.invariant.damaged not_torn)
