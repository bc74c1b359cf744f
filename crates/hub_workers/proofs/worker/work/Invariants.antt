use Rattle.hub_workers.proofs.Common.{◌≡◌, ◌+◌, ◌^◌, ◌<◌, length}
use Rattle.hub_workers.proofs.worker.work.Given as goal

-- the pass put nothing, and took a job for each call or fault of the seat
abbrev pub invariant-loop : goal.invariant-loop
invariant-loop g l =
    (l.pass ≡ record l.initial.pass { taken = l.pass.taken })
    × (l.seat.parts ≡ l.initial.seat.parts)
    × (l.seat.refused < 2 ^ 60 → length l.pass.taken + (l.initial.seat.count + l.initial.seat.refused) ≡ length l.initial.pass.taken + (l.seat.count + l.seat.refused))
