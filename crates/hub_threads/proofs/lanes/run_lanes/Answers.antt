use Rattle.hub_threads.proofs.Common.{arith, sym, subst, List, LaneState, CanBegin}
use Rattle.hub_threads.proofs.lanes.run_lanes.Goals as goal

pub run_threads-requires-clause-begins : goal.run_threads-requires-clause-begins
run_threads-requires-clause-begins g c =
    let places = c.args.places in
    λ κs h. subst (λ (l : List LaneState). CanBegin {S = g.row.S.Denot} {K = g.row.K.Denot} g.W.Work.pass g.W.Work.can_begin l places.sessions.items places.workers.items) (sym c.as_slice.ensures.value) c.requires.begins

pub run_threads-requires-clause-queues : goal.run_threads-requires-clause-queues
run_threads-requires-clause-queues g c =
    let queues = c.as_slice-2.ensures.len in
    let made = c.in_ok-answers.ensures in
    let counted = c.len.ensures in
    let served = c.args.places.sessions.ok.0 in
    λ κs h. omega (arith, queues, made, counted, served)
