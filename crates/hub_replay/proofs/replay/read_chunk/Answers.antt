use Rattle.hub_replay.proofs.Common.{arith, common_steps}
use Rattle.hub_replay.proofs.replay.read_chunk.Goals as goal

pub returns-in-Ok-clause-bounds : goal.returns-in-Ok-clause-bounds
returns-in-Ok-clause-bounds g c = (grind (arith, common_steps), grind (arith, common_steps))
