use Rattle.journal_lines.proofs.FaultLemmas.{too_short}
use Rattle.journal_lines.proofs.line.stated_digits.Goals as goal

pub returns-then-line-lt-DIGITS_END-clause-none : goal.returns-then-line-lt-DIGITS_END-clause-none
returns-then-line-lt-DIGITS_END-clause-none c = too_short c.args.line.now c.if-line-lt-DIGITS_END.true
