use Rattle.json_tokens.proofs.ScanLemmas.{read_if_scanned}
use Rattle.json_tokens.proofs.flat.FlatRecord.read.Goals as goal

pub returns : goal.returns
returns c = read_if_scanned c.args.text.now _ c.scan_members.result c.scan_members.ensures.small c.scan_members.ensures.all
