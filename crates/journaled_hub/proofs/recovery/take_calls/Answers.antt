use Rattle.std.proofs.Common.{◌≡◌, ◌++◌, ◌+◌, [], refl, ap, ◌∙◌, sym, subst, List, ℕ}
use Rattle.std.specs.Prelude.{None, Ok}
use Rattle.std.proofs.lemmas.List.{append-nil}
use Rattle.journal.specs.Journals.{bytes_read, given_lines}
use Rattle.journaled_hub.specs.CallBatches.{lines_given, IsCallBatch, IsAhead}
use Rattle.journaled_hub.specs.OpenFaults.{fault_of_line, IsOpenFault}
use Rattle.journaled_hub.proofs.AheadLemmas.{no_more, ahead_next, all_taken, next_not_taken, calls_not_taken}
use Rattle.journaled_hub.proofs.recovery.take_calls.Goals as goal

pub batches-preserved : goal.batches-preserved
batches-preserved g c =
    let now = c.apply_and_read-ahead.new.hub in
    let after = c.apply_and_read-ahead.new.reader in
    let ahead = c.apply_and_read-ahead.result.0 in
    let next = c.apply_and_read-ahead.result.1.1 in
    let batch = c.batches.lists.batch in
    let e = c.apply_and_read-ahead.ensures in
    let taken = rw (c.in-Ok.is) at e.calls in
    let read : IsCallBatch (lines_given c.batches.given) batch.sum ahead = subst (λ (l : List (List ℕ)). IsCallBatch l batch.sum ahead) (c.text_of.ensures (c.batches-test.ensures.text refl)) e.ahead in
    subst (λ b. IsAhead after next now b) (sym c.replace.ensures.after)
    (ahead_next c.batches.reader c.batches.given c.batches.hub now batch c.batches.invariant taken after next ahead (c.batches-test.ensures.taken refl) read e.given)

pub returns-in-Err-clause-fault : goal.returns-in-Err-clause-fault
returns-in-Err-clause-fault g c =
    let e = c.apply_and_read-ahead.ensures in
    calls_not_taken c.batches.reader c.apply_and_read-ahead.new.reader c.batches.given c.batches.hub c.batches.lists.batch c.batches.invariant e.given.reading (lines_given c.apply_and_read-ahead.result.1.1) e.given.lines c.in-Err.fault (rw (c.in-Err.is) at e.fault)

pub returns-in-Err-apply_calls-clause-fault : goal.returns-in-Err-apply_calls-clause-fault
returns-in-Err-apply_calls-clause-fault g c =
    let reader = c.batches.reader in
    let a = c.batches.invariant in
    calls_not_taken reader reader c.batches.given c.batches.hub c.batches.lists.batch a a.has_given.reading [] (sym (append-nil (given_lines reader))) c.in-Err-apply_calls.fault c.in-Err-apply_calls.ensures.fault

pub returns-in-Some-default-clause-fault : goal.returns-in-Some-default-clause-fault
returns-in-Some-default-clause-fault g c =
    let fault = c.in-Some-default.fault in
    let bytes = bytes_read c.batches.reader in
    let told = next_not_taken c.batches.reader c.batches.given c.batches.hub c.apply_calls.new.hub c.batches.lists.batch c.batches.invariant c.in-Ok-apply_calls.ensures.calls fault c.in-Some-default.is-0 in
    subst (λ f. IsOpenFault f bytes) (sym (c.line_fault.ensures ∙ ap (λ n. fault_of_line fault (n + 1)) c.len.ensures.value)) told

pub returns-clause-lines : goal.returns-clause-lines
returns-clause-lines g c =
    let given = c.batches.given in
    let last : given ≡ Ok None = no_more given c.in-None-Ok.field-0-1 c.in-None-Ok.is-1 (c.batches-test.ensures.last refl c.in-None-Ok.is-0) in
    all_taken c.batches.reader given c.batches.hub c.apply_calls.new.hub c.batches.lists.batch c.batches.invariant c.in-Ok-apply_calls.ensures.calls c.in-None-Ok.is-0 last
