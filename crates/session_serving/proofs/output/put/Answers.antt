use Rattle.session_serving.proofs.WriteLemmas.{writes-more, writes-fails}
use Rattle.session_serving.proofs.output.put.Goals as goal

pub returns-in-Ok-clause-writes : goal.returns-in-Ok-clause-writes
returns-in-Ok-clause-writes g c = writes-more _ _ _ _ c.args.bytes.now c.in-Ok.ensures.writes c.put_apart.ensures.writes

pub returns-in-Err-clause-writes : goal.returns-in-Err-clause-writes
returns-in-Err-clause-writes g c = writes-fails _ _ c.args.bytes.now c.in-Err.ensures.writes
