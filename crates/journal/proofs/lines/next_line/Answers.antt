use Rattle.std.proofs.Common.{◌∙◌, arith}
use Rattle.journal.proofs.TextLemmas.{line_next, blank_next, no_next}
use Rattle.journal.proofs.lines.next_line.Goals as goal

pub returns-then-start-end-clause-line : goal.returns-then-start-end-clause-line
returns-then-start-end-clause-line c = c.lines.invariant.same ∙ line_next c.args.text.now c.lines.start c.in-Some.end c.in-Some.ensures c.if-start-end.true

pub lines-preserved : goal.lines-preserved
lines-preserved c =
    let n = c.in-Some.ensures in
    record {
      order = omega (arith, c.lines.invariant.order, n.order);
      within = omega (arith, n.within);
      same = c.lines.invariant.same ∙ blank_next c.args.text.now c.lines.start c.in-Some.end n c.if-start-end.false;
    }

pub returns-clause-none : goal.returns-clause-none
returns-clause-none c = c.lines.invariant.same ∙ no_next c.args.text.now c.lines.start c.lines.invariant.within c.in_default.ensures
