use Rattle.std.proofs.Common.{◌∙◌, ap, false}
use Rattle.log_file.specs.declared.past.Past.{Past}
use Rattle.log_file.specs.Crashes.{content_of}
use Rattle.log_file.specs.Files.{past_of}
use Rattle.journal.specs.Lines.{recovered_lines}
use Rattle.journal.proofs.JournalLemmas.{whole_recovered, kept_whole}
use Rattle.journal.proofs.journal.Journal.open.Goals as goal

pub returns-in-Ok-clause-same : goal.returns-in-Ok-clause-same
returns-in-Ok-clause-same g c =
    whole_recovered (content_of (past_of c.repair.new.file)) (recovered_lines (content_of (past_of c.into_file-file.result))) c.in-Ok.ensures.whole
    ∙ ap (λ (p : Past). recovered_lines (content_of p)) c.into_file-file.ensures

pub returns-in-Ok-clause-on_disk : goal.returns-in-Ok-clause-on_disk
returns-in-Ok-clause-on_disk g c = kept_whole (past_of c.repair.new.file) (recovered_lines (content_of (past_of c.into_file-file.result))) false c.in-Ok.ensures.synced c.in-Ok.ensures.whole
