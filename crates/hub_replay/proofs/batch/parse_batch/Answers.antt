use Rattle.hub_replay.proofs.Common.{◌≡◌, ◌+◌, ◌∙◌, ◌∷◌, [], true, arith, ap, sym, drop, length, length-append, slice_range, All-same, All-push, IsNotMemory, has_no_newline}
use Rattle.hub_replay.proofs.LineLemmas.{IsTaken-line, unbroken_slices, unbroken_rest, unbroken_nothing}
use Rattle.hub_replay.proofs.batch.parse_batch.Goals as goal

pub returns-in_default : goal.returns-in_default
returns-in_default c =
    let i = c.lines.invariant in
    let none = unbroken_rest c.args.bytes.now c.lines.from c.lines.place i.order i.scanned c.in_default.ensures in
    record {
      bounds = omega (arith, i.order, i.bounds);
      says = i.says;
      reportable = i.reportable;
      few = i.few;
      none = λ e. sym (ap (λ n. has_no_newline (drop n c.args.bytes.now)) e) ∙ none;
    }

pub lines-preserved : goal.lines-preserved
lines-preserved c =
    let i = c.lines.invariant in
    let n = c.in-Some.ensures in
    let h = c.in_ok-parse_line.field-0 in
    let whole : has_no_newline (slice_range c.args.bytes.now c.lines.from c.in-Some.end) ≡ true = unbroken_slices c.args.bytes.now c.lines.from c.lines.place c.in-Some.end i.order n.0 i.scanned n.3 in
    let more = c.in_ok-push_back.ensures.items in
    record {
      order = omega arith;
      bounds = omega (arith, n.1);
      scanned = unbroken_nothing c.args.bytes.now (c.in-Some.end + 1);
      says = rw more (IsTaken-line c.args.bytes.now c.args.bytes.now c.lines.lines.items c.lines.from c.in-Some.end h i.says (omega (arith, i.order, n.0)) n.1 n.2 whole c.in_ok-parse_line.ensures.value);
      reportable = All-same IsNotMemory _ _ more (All-push IsNotMemory c.lines.lines.items h i.reportable c.in_ok-parse_line.ensures.reportable);
      few = omega (arith, ap length more, length-append c.lines.lines.items (h ∷ []), i.few, i.order, n.0);
    }
