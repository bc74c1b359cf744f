-- What the thread of a worker gives back.
use Rattle.std.specs.Prelude.{◌≡◌, ◌+◌, ◌^◌, ◌<◌, length}
use Rattle.inbox.specs.States.{PassState}
use Rattle.hub_shared.specs.Seats.{SeatState}

-- By the pass that it began with a worker took jobs, and put none. While its seat counts faults, it counted a call or a fault
-- for each job.
pub record IsWorked (began : PassState) (pass : PassState) (seat : SeatState) : Type 0 where
  pub took_only : pass ≡ record began { taken = pass.taken }
  pub one : seat.parts ≡ 1
  pub made : seat.refused < 2 ^ 60
      → length pass.taken ≡ length began.taken + (seat.count + seat.refused)
