use Rattle.journal_lines.proofs.Common.{◌∙◌, sym, ap}
use Rattle.journal.specs.Lines.{is_line}
use Rattle.journal_lines.specs.Sums.{digits_of}
use Rattle.journal_lines.specs.CallLines.{line_data, digits_in_front}
use Rattle.journal_lines.proofs.ByteLemmas.{line_bytes}
use Rattle.journal_lines.proofs.DigitLemmas.{sum_digits_are}
use Rattle.journal_lines.proofs.ReadLemmas.{line_with-is}
use Rattle.journal_lines.proofs.line.line_of.Goals as goal

pub returns-clause-text : goal.returns-clause-text
returns-clause-text c =
    let sum = c.sum_after-sum.result in
    c.in_ok-line.ensures ∙ (λ i. digits_in_front (c.digits_of.ensures i) ((c.as_slice-2.ensures.value ∙ c.in_ok-text.ensures) i))
    ∙ sym (line_with-is (digits_of sum) c.args.call.now (sum_digits_are sum))

pub returns-clause-line : goal.returns-clause-line
returns-clause-line c = ap is_line (returns-clause-text c) ∙ line_bytes (line_data (digits_of c.sum_after-sum.result) c.args.call.now)
