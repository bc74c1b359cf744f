use Rattle.hub_threads.proofs.Common.{◌≡◌, ◌≤◌, true, length, vec_len, vec_capacity, EachPair}
use Rattle.hub_threads.proofs.threads.fn.run_threads.scope.Given as goal

-- while no thread is missing, the handle at each place is of the worker at that place
abbrev pub invariant-loop-start : goal.invariant-loop-start
invariant-loop-start g l =
    (l.lane ≡ length l.yielded)
    × (vec_len l.working ≤ length l.yielded)
    × (vec_capacity l.working ≡ vec_capacity l.initial.working)
    × (l.all_started ≡ true → EachPair (λ k s h. h.promise.began.value ≡ s) l.yielded l.working.items)

-- and the same of the sessions
abbrev pub invariant-loop-start-2 : goal.invariant-loop-start-2
invariant-loop-start-2 g l =
    (l.place ≡ length l.yielded)
    × (vec_len l.serving ≤ length l.yielded)
    × (vec_capacity l.serving ≡ vec_capacity l.initial.serving)
    × (l.all_started ≡ true → (l.initial.all_started ≡ true) × EachPair (λ k s h. h.promise.start.value ≡ s) l.yielded l.serving.items)
