use Rattle.log_file.proofs.SnapshotLemmas.{is_opened}
use Rattle.log_file.proofs.file.LogFile.new.Goals as goal

pub returns : goal.returns
returns g c = is_opened c.of.result c.args.content.now c.of.ensures
