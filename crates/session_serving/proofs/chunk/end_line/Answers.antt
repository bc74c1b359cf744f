use Rattle.session_serving.proofs.Common.{true, false}
use Rattle.session_serving.proofs.ServeLemmas.{first-line, first-none, serves-says}
use Rattle.session_serving.proofs.chunk.end_line.Goals as goal

pub returns-in-Ok-false-clause-serves : goal.returns-in-Ok-false-clause-serves
returns-in-Ok-false-clause-serves g c = first-none _ _ _ true true (serves-says _ _ _ _ _ _ true true c.in-Ok-false.ensures.port.1 c.in-Ok-false.ensures.says)

pub returns-in-Err-clause-serves : goal.returns-in-Err-clause-serves
returns-in-Err-clause-serves g c = first-none _ _ _ _ _ (serves-says _ _ _ _ _ _ _ _ c.in-Err.ensures.port.1 c.in-Err.ensures.says)

pub returns-in-Err-give_line-clause-serves : goal.returns-in-Err-give_line-clause-serves
returns-in-Err-give_line-clause-serves g c = first-line _ _ _ _ _ _ _ false c.as_slice.ensures.value (serves-says _ _ _ _ _ _ true true c.in-Ok-true.ensures.port.1 c.in-Ok-true.ensures.says) c.in-Err-give_line.ensures.serves

pub returns-clause-serves : goal.returns-clause-serves
returns-clause-serves g c = first-line _ _ _ _ _ true true _ c.as_slice.ensures.value (serves-says _ _ _ _ _ _ true true c.in-Ok-true.ensures.port.1 c.in-Ok-true.ensures.says) c.in-Ok.ensures.serves
