use Rattle.std.proofs.Common.{◌≡◌, vec_len}
use Rattle.accept_queue.proofs.handler.each_handler.Given as goal

abbrev pub invariant-loop-handler : goal.invariant-loop-handler
invariant-loop-handler g l = vec_len l.each ≡ l.handler
