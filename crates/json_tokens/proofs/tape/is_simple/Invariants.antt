use Rattle.json_tokens.proofs.Common.{map, drop, node_token, IsSimpleAt}
use Rattle.json_tokens.proofs.tape.is_simple.Given as goal

-- all are simple if those to come are, at this depth
abbrev pub invariant-loop-node : goal.invariant-loop-node
invariant-loop-node l = IsSimpleAt l.depth (map node_token (drop l.node-index l.nodes)) → IsSimpleAt 0 (map node_token l.nodes)
