use Rattle.std.proofs.Common.{◌≡◌}
use Rattle.std.specs.VecDeque.{deque_len}
use Rattle.journal_workers.specs.Work.{HasMadeCalls}
use Rattle.journal_workers.proofs.worker.JournalWorker.make_calls.Given as goal

-- the calls so far were made, one for each turn, and one before
abbrev pub invariant-loop-more : goal.invariant-loop-more
invariant-loop-more g l =
    HasMadeCalls l.fn.first l.fn.self l.self × (deque_len l.self.dones ≡ l._more)
