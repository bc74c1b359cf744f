use Rattle.session_serving.proofs.Common.{◌∷◌, []}
use Rattle.session_serving.proofs.WriteLemmas.{writes-line, writes-line-fails}
use Rattle.session_serving.proofs.output.put_line.Goals as goal

pub returns-in-Ok-clause-writes : goal.returns-in-Ok-clause-writes
returns-in-Ok-clause-writes g c = writes-line _ _ _ _ c.bytes.result.now c.args.line.now (10 ∷ []) c.bytes.ensures c.in-Ok.ensures.writes c.put-in-Ok.ensures.writes

pub returns-in-Err-clause-writes : goal.returns-in-Err-clause-writes
returns-in-Err-clause-writes g c = writes-line-fails _ _ c.bytes.result.now c.args.line.now (10 ∷ []) c.bytes.ensures c.in-Err.ensures.writes
