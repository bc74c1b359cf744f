use Rattle.journal_lines.specs.Sums.{first_sum, digits_of}
use Rattle.journal_lines.proofs.DigitLemmas.{sum_digits_are}
use Rattle.journal_lines.proofs.ReadLemmas.{line_is_read}
use Rattle.journal_lines.proofs.CallsLemmas.{same_calls}
use Rattle.journal_lines.proofs.laws.journal_lines_are_calls.Goals as goal

pub returns-clause-line : goal.returns-clause-line
returns-clause-line c sum call = line_is_read (digits_of sum) call (sum_digits_are sum)

pub returns-clause-lines : goal.returns-clause-lines
returns-clause-lines c = same_calls first_sum
