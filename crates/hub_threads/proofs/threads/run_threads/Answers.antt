use Rattle.hub_threads.proofs.Common.{rules, vec_len, IsEmptyWithRoom}
use Rattle.hub_threads.proofs.threads.run_threads.Goals as goal

pub scoped-requires : goal.scoped-requires
scoped-requires g c =
    let serving : IsEmptyWithRoom c.in_ok-serving.serving (vec_len c.args.sessions) = record { empty = c.in_ok-serving.ensures.empty; room = search (rules, c.in_ok-serving.ensures.room) } in
    let working : IsEmptyWithRoom c.in_ok-working.working (vec_len c.args.workers) = record { empty = c.in_ok-working.ensures.empty; room = search (rules, c.in_ok-working.ensures.room) } in
    record { at = λ a. ((c.requires.begins, c.requires.queues, serving, working), (search rules, search rules, search rules, search rules, search rules, search rules, search rules)) }
