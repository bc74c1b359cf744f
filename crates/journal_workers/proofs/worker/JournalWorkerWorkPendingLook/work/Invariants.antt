use Rattle.journal_workers.specs.Work.{HasWorked, IsReady}
use Rattle.journal_workers.proofs.worker.JournalWorkerWorkPendingLook.work.Given as goal

-- it has worked, and may take a further batch
abbrev pub invariant-loop : goal.invariant-loop
invariant-loop g l = HasWorked l.fn.self l.worker × IsReady l.worker
