use Rattle.log_file.specs.Files.{past_of}
use Rattle.journal.specs.Journals.{journal_past}
use Rattle.journal.proofs.JournalLemmas.{not_begun, committed, failed, now_durable, now_kept}
use Rattle.journal.proofs.journal.Journal.commit.Goals as goal

pub returns-in-Ok-clause-on_disk : goal.returns-in-Ok-clause-on_disk
returns-in-Ok-clause-on_disk g c =
    let sound = c.if-self.false in
    now_kept (journal_past c.args.self.now) c.into_text-text.result c.args.batch (c.requires.synced sound) (c.requires.whole sound) c.into_text-text.ensures.text c.into_text-text.ensures.lines
    (past_of c.append_and_sync.new.file) c.args.self.now.has_failed c.in-Ok.ensures.ok

pub returns-in-Ok-clause-durable : goal.returns-in-Ok-clause-durable
returns-in-Ok-clause-durable g c =
    let sound = c.if-self.false in
    now_durable (journal_past c.args.self.now) c.into_text-text.result c.args.batch (c.requires.synced sound) (c.requires.whole sound) c.into_text-text.ensures.text c.into_text-text.ensures.lines
    (past_of c.append_and_sync.new.file) c.in-Ok.ensures.ok

pub returns-in-Ok-clause-any_moment : goal.returns-in-Ok-clause-any_moment
returns-in-Ok-clause-any_moment g c sound =
    committed (journal_past c.args.self.now) c.into_text-text.result c.args.batch (c.requires.synced sound) (c.requires.whole sound) c.into_text-text.ensures.text c.into_text-text.ensures.lines
    (past_of c.append_and_sync.new.file) c.in-Ok.ensures.ok

pub returns-clause-any_moment : goal.returns-clause-any_moment
returns-clause-any_moment g c sound =
    failed (journal_past c.args.self.now) c.into_text-text.result c.args.batch (c.requires.synced sound) (c.requires.whole sound) c.into_text-text.ensures.text c.into_text-text.ensures.lines
    (past_of c.append_and_sync.new.file) c.in-Err.ensures.err

pub returns-then-is_empty-clause-any_moment : goal.returns-then-is_empty-clause-any_moment
returns-then-is_empty-clause-any_moment g c sound = not_begun (journal_past c.args.self.now) c.args.batch (c.requires.synced sound) (c.requires.whole sound)
