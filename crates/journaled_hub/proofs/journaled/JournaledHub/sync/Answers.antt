use Rattle.std.proofs.Common.{◌≡◌, List, ℕ, ◌++◌, ◌∙◌, ap, subst}
use Rattle.std.specs.Prelude.{◌⊎◌}
use Rattle.log_file.specs.Crashes.{LeavesOnly}
use Rattle.journal.specs.Lines.{StandsFor}
use Rattle.journal.specs.Journals.{lines_of, journal_past}
use Rattle.journaled_hub.specs.HistoryLines.{lines_of_history}
use Rattle.journaled_hub.proofs.journaled.JournaledHub.sync.Goals as goal

pub returns-in-Err-clause-any_moment : goal.returns-in-Err-clause-any_moment
returns-in-Err-clause-any_moment g c sound =
    let old = c.args.self.now in
    let all : lines_of old.journal ++ c.replace-batch.result ≡ lines_of_history old.hub = ap (λ (b : List (List ℕ)). lines_of old.journal ++ b) c.replace-batch.ensures.value ∙ c.requires.lines sound in
    subst (λ (t : List (List ℕ)). LeavesOnly (journal_past old.journal) (journal_past c.commit.new.self) (λ f. StandsFor f (lines_of old.journal) ⊎ StandsFor f t)) all (c.commit.ensures.any_moment sound)
