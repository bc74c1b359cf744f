use Rattle.log_file.specs.Files.{past_of}
use Rattle.journal.proofs.JournalLemmas.{repaired, not_repaired}
use Rattle.journal.proofs.journal.repair.Goals as goal

pub returns-in-Ok-clause-any_moment : goal.returns-in-Ok-clause-any_moment
returns-in-Ok-clause-any_moment g c = repaired (past_of c.args.file.now) c.args.whole c.requires.synced c.requires.found (past_of c.cut_and_sync.new.file) c.in-Ok.ensures.ok

pub returns-in-Err-clause-any_moment : goal.returns-in-Err-clause-any_moment
returns-in-Err-clause-any_moment g c = not_repaired (past_of c.args.file.now) c.args.whole c.requires.synced c.requires.found (past_of c.cut_and_sync.new.file) c.in-Err.ensures.err
