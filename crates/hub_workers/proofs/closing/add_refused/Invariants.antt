use Rattle.hub_workers.proofs.Common.{◌≡◌, ◌≤◌, ◌*◌, ◌^◌, sum_by, take, SeatState}
use Rattle.hub_workers.proofs.closing.add_refused.Given as goal

abbrev pub invariant-loop-seat : goal.invariant-loop-seat
invariant-loop-seat g l = (l.refused ≡ sum_by (λ (s : SeatState). s.refused) (take l.seat-index l.seats)) × (l.refused ≤ 2 ^ 60 * l.seat-index)
