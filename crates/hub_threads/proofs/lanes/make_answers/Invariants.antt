use Rattle.hub_threads.proofs.Common.{◌≡◌, vec_len}
use Rattle.hub_threads.proofs.lanes.make_answers.Given as goal

abbrev pub invariant-loop-made : goal.invariant-loop-made
invariant-loop-made l = vec_len l.queues ≡ l._made
