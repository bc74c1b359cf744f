use Rattle.std.proofs.Common.{◌≡◌, ◌+◌, ◌<◌, ◌≤◌, ℕ, List, ap, arith, drop, length, take, refl, sym, subst, true, ◌∙◌}
use Rattle.std.proofs.lemmas.List.{take_rest, length-take-le}
use Rattle.journal.specs.Lines.{is_torn, HasNoNewline, HasWholeBatches}
use Rattle.journal.proofs.CrashLemmas.{is_recovered}
use Rattle.journal.proofs.RunLemmas.{IsAtLine, HasNoHole, line_start, batch_ends, line_ends, all_found, never_left, counted_newline, counted_inner}
use Rattle.journal.proofs.found.find_batches.Goals as goal
use Rattle.journal.proofs.found.find_batches.Goals.{then-newline-from, else-newline-from}

pub lines-init : goal.lines-init
lines-init c = record { within = omega arith; read = line_start c.args.bytes.now }

pub lines-preserved : goal.lines-preserved
lines-preserved c =
    let bytes = c.args.bytes.now in
    let end = c.first_hole-end.result in
    let from = c.lines.from in
    let newline = c.in-Some.newline in
    let counted : List ℕ = take end bytes in
    let next = counted_newline bytes counted end from newline c.first_hole-end.ensures.within refl c.in-Some.ensures in
    let inside : newline < length bytes = omega (arith, next.1, c.first_hole-end.ensures.within) in
    let holes : HasNoHole bytes from (newline + 1) = λ k low high. c.first_hole-end.ensures.before k (omega (arith, high, next.1)) in
    elim c.if-newline-from.branch [
      | then-newline-from w ↦ record {
        within = omega (arith, c.in-Some.ensures.within);
        read = subst (IsAtLine bytes (newline + 1)) (sym w.whole-is)
            (batch_ends bytes newline c.lines.whole inside next.0.newline (subst (λ k. IsAtLine bytes k c.lines.whole) (sym w.if-newline-from.true) c.lines.invariant.read));
      }
      | else-newline-from w ↦ record {
        within = omega (arith, c.in-Some.ensures.within);
        read = subst (IsAtLine bytes (newline + 1)) (sym w.whole-is)
            (line_ends bytes from newline c.lines.whole (omega (arith, next.0.order, w.if-newline-from.false)) inside holes next.0.before next.0.newline c.lines.invariant.read);
      }
    ]

pub returns-clause-found : goal.returns-clause-found
returns-clause-found c =
    let bytes = c.args.bytes.now in
    let end = c.first_hole-end.result in
    let within = c.first_hole-end.ensures.within in
    let counted : List ℕ = take end bytes in
    let order : c.lines.from ≤ end = omega (arith, c.lines.invariant.within, length-take-le end bytes within) in
    let holes : HasNoHole bytes c.lines.from end = λ k low high. c.first_hole-end.ensures.before k high in
    let inner : HasNoNewline bytes c.lines.from end = counted_inner bytes counted end c.lines.from within refl c.in_default.ensures in
    let torn : c.may_be_torn-torn.result ≡ is_torn true (drop c.lines.whole bytes) = c.may_be_torn-torn.ensures ∙ ap (is_torn true) (take_rest bytes c.lines.whole) in
    let a = c.lines.invariant.read in
    let found : HasWholeBatches bytes a.state.lines c.lines.whole c.may_be_torn-torn.result = all_found bytes c.lines.from end c.lines.whole order within holes inner a c.may_be_torn-torn.result torn c.first_hole-end.ensures.nothing in
    subst (λ (l : List (List ℕ)). HasWholeBatches bytes l c.lines.whole c.may_be_torn-torn.result) (sym (is_recovered bytes a.state.lines c.lines.whole c.may_be_torn-torn.result found)) found

pub returns-clause-damaged : goal.returns-clause-damaged
returns-clause-damaged c not_torn =
    let bytes = c.args.bytes.now in
    let end = c.first_hole-end.result in
    let within = c.first_hole-end.ensures.within in
    let counted : List ℕ = take end bytes in
    let order : c.lines.from ≤ end = omega (arith, c.lines.invariant.within, length-take-le end bytes within) in
    let holes : HasNoHole bytes c.lines.from end = λ k low high. c.first_hole-end.ensures.before k high in
    let inner : HasNoNewline bytes c.lines.from end = counted_inner bytes counted end c.lines.from within refl c.in_default.ensures in
    let torn : c.may_be_torn-torn.result ≡ is_torn true (drop c.lines.whole bytes) = c.may_be_torn-torn.ensures ∙ ap (is_torn true) (take_rest bytes c.lines.whole) in
    never_left bytes c.lines.from end c.lines.whole order within holes inner c.lines.invariant.read c.may_be_torn-torn.result torn c.first_hole-end.ensures.hole not_torn
