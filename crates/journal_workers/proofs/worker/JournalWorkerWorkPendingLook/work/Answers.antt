use Rattle.std.proofs.Common.{sym, subst}
use Rattle.journal_workers.specs.Work.{HasWorked}
use Rattle.journal_workers.proofs.WorkLemmas.{not_worked, works_on}
use Rattle.journal_workers.proofs.worker.JournalWorkerWorkPendingLook.work.Goals as goal
use Rattle.journal_workers.proofs.worker.JournalWorkerWorkPendingLook.work.Goals.{in-None, in-Some+in-NoJob, in-Some+in-Failed}

pub loop-init : goal.loop-init
loop-init g c = (not_worked c.args.self c.requires.begins.on_disk, c.requires.begins)

pub loop-preserved : goal.loop-preserved
loop-preserved g c = (
  works_on c.args.self c.loop.worker c.answer_batch.new.self c.loop.invariant.0 c.answer_batch.ensures.worked,
  c.answer_batch.ensures.ready c.in-Answered.is,
)

pub returns-clause-worked : goal.returns-clause-worked
returns-clause-worked g c =
    let began = c.args.self in
    let so_far = c.loop.invariant.0 in
    elim c.match-next.branch [
      | in-None w ↦ subst (λ x. HasWorked {F = g.row.F.Denot} began x) (sym w.worker-is) so_far
      | in-Some+in-NoJob w ↦ subst (λ x. HasWorked {F = g.row.F.Denot} began x) (sym w.worker-is) (works_on began c.loop.worker w.answer_batch.new.self so_far w.answer_batch.ensures.worked)
      | in-Some+in-Failed w ↦ subst (λ x. HasWorked {F = g.row.F.Denot} began x) (sym w.worker-is) (works_on began c.loop.worker w.answer_batch.new.self so_far w.answer_batch.ensures.worked)
    ]
