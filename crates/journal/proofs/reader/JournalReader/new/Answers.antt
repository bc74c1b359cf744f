use Rattle.std.proofs.Common.{[], subst, sym, List, ℕ}
use Rattle.journal.specs.Journals.{IsSplit}
use Rattle.journal.proofs.LineLemmas.{read_none}
use Rattle.journal.proofs.ReaderLemmas.{split_none}
use Rattle.journal.proofs.reader.JournalReader.new.Goals as goal

pub returns-clause-reading : goal.returns-clause-reading
returns-clause-reading g c =
    subst (λ (b : List ℕ). IsSplit b 0 c.new-2.result.items) (sym c.new.ensures)
    (subst (λ (r : List ℕ). IsSplit [] 0 r) (sym c.new-2.ensures.items) split_none)

pub returns-clause-none : goal.returns-clause-none
returns-clause-none g c = read_none [] []
