use Rattle.log_file.proofs.SnapshotLemmas.{is_cut}
use Rattle.log_file.proofs.file.note_cut.Goals as goal

pub returns : goal.returns
returns c = is_cut c.of-before.result c.of.result c.args.past.now c.args.len c.of-before.ensures c.of.ensures
