use Rattle.hub_replay.proofs.Common.{arith, ◌∙◌, sym, false≢true}
use Rattle.hub_replay.proofs.LineLemmas.{begins_after_newline}
use Rattle.hub_replay.proofs.chunks.first_start.Goals as goal

pub returns-in-Some : goal.returns-in-Some
returns-in-Some c =
    let n = c.in-Some.ensures in
    (omega (arith, n.1), λ e. absurd (false≢true (sym e ∙ c.if-not-skipping.false)), λ more. rw (c.if-not-skipping.false) (begins_after_newline c.args.chunk.now c.in-Some.end n.1 n.2 n.3 more))
