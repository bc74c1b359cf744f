use Rattle.json_tokens.proofs.Common.{arith}
use Rattle.json_tokens.proofs.ScanLemmas.{plain_through, plain_to_stop}
use Rattle.json_tokens.proofs.scan.plain_len.Goals as goal

pub returns-then-found-ne0-clause-within : goal.returns-then-found-ne0-clause-within
returns-then-found-ne0-clause-within c =
    (plain_to_stop c.args.text.now c.loop-start.start 16 c.stops-found.result (omega arith) (omega arith) c.loop-start.invariant.1 c.stops-found.ensures (omega arith)).0

pub returns-then-found-ne0-clause-plain : goal.returns-then-found-ne0-clause-plain
returns-then-found-ne0-clause-plain c =
    (plain_to_stop c.args.text.now c.loop-start.start 16 c.stops-found.result (omega arith) (omega arith) c.loop-start.invariant.1 c.stops-found.ensures (omega arith)).1

pub loop-start-preserved : goal.loop-start-preserved
loop-start-preserved c =
    (omega arith, plain_through c.args.text.now c.loop-start.start 16 c.stops-found.result (omega arith) c.loop-start.invariant.1 c.stops-found.ensures (omega arith))
