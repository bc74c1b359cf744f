use Rattle.inbox.proofs.Common.{◌≡◌, ◌+◌, ◌++◌, map, sum_by, None, view, IsPassOf, pass_view, PassState, jobs_of}
use Rattle.inbox.proofs.queue.Inbox.close.Given as goal

-- the pass has the parts and the passes of the first pass and of those so far
abbrev pub invariant-loop-next : goal.invariant-loop-next
invariant-loop-next g l =
    IsPassOf l.queue l.whole
    × (view l.whole ≡ pass_view ((view l.initial.whole).parts + sum_by (λ (t : PassState). t.parts) l.yielded) ((view l.initial.whole).passes ++ map jobs_of l.yielded) None)
