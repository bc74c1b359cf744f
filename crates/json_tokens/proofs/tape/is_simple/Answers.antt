use Rattle.json_tokens.proofs.TapeReadLemmas.{simple_so_far, all_simple}
use Rattle.json_tokens.proofs.tape.is_simple.Goals as goal

pub loop-node-init : goal.loop-node-init
loop-node-init c h = h

pub loop-node-preserved : goal.loop-node-preserved
loop-node-preserved c =
    simple_so_far c.args.nodes.now c.loop-node.node-index _ c.loop-node.depth c.in-Some.next c.loop-node-test.true c.in-Some.ensures c.loop-node.invariant

pub returns : goal.returns
returns c all = all_simple c.args.nodes.now c.loop-node.node-index c.loop-node.depth c.loop-node-test.false c.loop-node.invariant
