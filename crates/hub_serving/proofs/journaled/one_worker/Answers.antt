use Rattle.hub_serving.proofs.Common.{ap, ◌∙◌, ◌++◌, ◌∷◌, [], List, JournalWorker}
use Rattle.hub_serving.proofs.journaled.one_worker.Goals as goal

pub returns : goal.returns
returns g c =
    let worker = c.in_ok-worker.worker in
    let known = c.in_ok-worker.ensures in (
      worker,
      c.push_reserved.ensures.items ∙ ap (λ (l : List (JournalWorker g.row.F.Denot)). l ++ worker ∷ []) c.in_ok-workers.ensures.empty,
      known.ready,
      known.same.0,
      known.same.1,
      known.same.2,
    )
