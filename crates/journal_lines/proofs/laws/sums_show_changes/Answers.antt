use Rattle.journal_lines.proofs.SumLemmas.{same_before, same_text}
use Rattle.journal_lines.proofs.laws.sums_show_changes.Goals as goal

pub returns-clause-byte : goal.returns-clause-byte
returns-clause-byte c before b other front rest p bytes others q r differ same = differ (same_text before b other front rest p bytes others q r same)

pub returns-clause-before : goal.returns-clause-before
returns-clause-before c before other text p q bytes differ same = differ (same_before before other text p q bytes same)
