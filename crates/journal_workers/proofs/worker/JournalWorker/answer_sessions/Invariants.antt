use Rattle.std.proofs.Common.{◌≡◌}
use Rattle.std.specs.VecDeque.{deque_len, deque_capacity}
use Rattle.journal_workers.proofs.worker.JournalWorker.answer_sessions.Given as goal

abbrev pub invariant-loop-done : goal.invariant-loop-done
invariant-loop-done g l =
    (l.self ≡ record l.fn.self { dones = l.self.dones }) × (deque_capacity l.self.dones ≡ deque_capacity l.fn.self.dones)

abbrev pub decreases-loop-done : goal.decreases-loop-done
decreases-loop-done g l = deque_len l.self.dones
