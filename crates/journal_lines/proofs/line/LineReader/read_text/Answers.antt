use Rattle.journal_lines.proofs.Common.{◌++◌, ◌∙◌, sym, ap}
use Rattle.std.proofs.lemmas.Bool.{false≢true}
use Rattle.journal_lines.specs.CallLines.{call_text}
use Rattle.journal_lines.proofs.FaultLemmas.{not_read, no_sum, not_its_line, limits_kept}
use Rattle.journal_lines.proofs.line.LineReader.read_text.Goals as goal

pub returns-in-Err : goal.returns-in-Err
returns-in-Err c = record {
  text = tt;
  line = tt;
  limits = tt;
  fault = λ none. not_read c.args.line.now c.in-Err.fault c.in-Err.ensures.text (sym c.line_fault.ensures ∙ none);
  no_sum = λ other. no_sum c.in-Err.fault (sym c.line_fault.ensures ∙ other);
}

pub returns-then-not-has_text-clause-fault : goal.returns-then-not-has_text-clause-fault
returns-then-not-has_text-clause-fault c none =
    not_its_line c.args.line.now c.as_slice.result.now c.in-Ok.call c.in-Ok.ensures.text
    (c.as_slice.ensures.value ∙ c.in-Ok-append_call.ensures.ok ∙ ap (λ t. t ++ call_text c.in-Ok.call) c.clear.ensures.items)
    (λ same. false≢true (c.if-not-has_text.ensures.1 same))

pub returns-clause-limits : goal.returns-clause-limits
returns-clause-limits c = limits_kept c.args.line.now c.in-Ok.call c.in-Ok.ensures.text c.in-Ok.ensures.no_text
