use Rattle.hub_shared.proofs.Common.{◌≡◌, ◌+◌, sum_by, SeatState}
use Rattle.hub_shared.proofs.booked.merge_shares.Given as goal

-- the share has what the last seat and those so far had
abbrev pub invariant-loop-seat : goal.invariant-loop-seat
invariant-loop-seat g l =
    (l.all.parts ≡ l.initial.all.parts + sum_by (λ (s : SeatState). s.parts) l.yielded)
    × (l.all.amount ≡ l.initial.all.amount + sum_by (λ (s : SeatState). s.count) l.yielded)
