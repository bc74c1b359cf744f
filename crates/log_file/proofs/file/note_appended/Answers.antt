use Rattle.log_file.proofs.SnapshotLemmas.{is_appended}
use Rattle.log_file.proofs.file.note_appended.Goals as goal

pub returns : goal.returns
returns c = is_appended c.of-before.result c.of.result c.args.past.now c.args.bytes.now c.of-before.ensures c.of.ensures
