use Rattle.std.proofs.Common.{◌++◌, take, ◌∙◌}
use Rattle.std.proofs.KnownBytes.{Appends-trans}
use Rattle.railway_keys.proofs.GuardLemmas.{pushed}
use Rattle.railway_keys.proofs.told.write_all.Goals as goal

pub loop-rest-preserved : goal.loop-rest-preserved
loop-rest-preserved g c =
    let i = c.loop-rest.invariant in (
      i.0 ++ take c.in_ok-count.count c.loop-rest.rest.now,
      pushed c.args.bytes.now i.0 c.loop-rest.rest.now c.in_ok-count.count c.in_ok-count.ensures.bound i.1,
      Appends-trans _ _ _ i.0 _ i.2 c.in_ok-count.ensures.bytes,
      c.in_ok-count.ensures.counted ∙ i.3,
    )
