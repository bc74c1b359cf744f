use Rattle.hub_shared.proofs.Common.{arith}
use Rattle.hub_shared.proofs.MarkLemmas.{step_at, twice_at, rises_at}
use Rattle.hub_shared.proofs.settling.check_tally.Goals as goal
use Rattle.hub_shared.proofs.settling.check_tally.Goals.{else-i-gt0-via-then-i-gt0+else-position-entries, else-i-gt0-via-else-i-gt0}

pub returns-then-seen-place-clause-err : goal.returns-then-seen-place-clause-err
returns-then-seen-place-clause-err c =
    let inside = c.stands_in.ensures.within c.if-not-stands_in.false in
    let later = c.if-position-earlier.false in
    (later, inside, twice_at c.args.hub.now c.args.earlier c.args.seen.now c.loop-i.seen c.args.entries.now c.loop-i.i c.index-entries-i.result c.index-entries-i.is c.loop-i.invariant c.loop-i-test.true later inside c.if-seen-place.true)

pub loop-i-preserved : goal.loop-i-preserved
loop-i-preserved c =
    let inside = c.stands_in.ensures.within c.if-not-stands_in.false in
    let later = c.if-position-earlier.false in
    step_at c.args.hub.now c.args.earlier c.args.seen.now c.loop-i.seen c.args.entries.now c.loop-i.i c.index-entries-i.result c.index-entries-i.is c.loop-i.invariant c.loop-i-test.true (c.stands_in.ensures.exactly.0 c.if-not-stands_in.false) later
    (λ some_before. elim c.else-i-gt0.branch [ else-i-gt0-via-then-i-gt0+else-position-entries w ↦ rises_at c.args.entries.now c.loop-i.i w.index-entries-i-then-i-gt0.result c.index-entries-i.result c.loop-i-test.true w.if-position-entries.false | else-i-gt0-via-else-i-gt0 w ↦ absurd (omega (arith, some_before, w.if-i-gt0.false)) ])
    (let a = c.loop-i.auto.seen in let r = c.requires in omega (arith, inside, later, a, r))
    c.if-seen-place.false
