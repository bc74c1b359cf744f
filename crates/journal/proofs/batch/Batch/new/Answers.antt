use Rattle.std.proofs.Common.{arith}
use Rattle.journal.proofs.LineLemmas.{lines_kept, no_lines, recovered_of_text}
use Rattle.journal.proofs.batch.Batch.new.Goals as goal

pub invariant_of-result : goal.invariant_of-result
invariant_of-result c = record { spells = lines_kept _ _ (no_lines _ c.new.ensures.items); room = λ some. absurd (omega (arith, c.new.ensures.len)) }

pub returns : goal.returns
returns c = recovered_of_text _ _ (no_lines _ c.new.ensures.items)
