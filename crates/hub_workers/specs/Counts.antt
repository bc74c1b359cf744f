-- What workers took, and what they counted.
use Rattle.std.specs.Prelude.{◌≡◌, ◌+◌, ◌^◌, ◌<◌, List, map, length}
use Rattle.inbox.specs.declared.rule.Job.{Job}
use Rattle.hub_shared.specs.Seats.{SeatState}

-- what the worker of a lane took, and its seat
pub record WorkerState : Type 0 where
  pub taken : List Job
  pub seat : SeatState

-- it counted a call or a fault for each job that it took, while it counts faults
abbrev pub MakesCalls : WorkerState → Type 0
MakesCalls w = w.seat.refused < 2 ^ 60 → length w.taken ≡ w.seat.count + w.seat.refused

abbrev pub taken_lists : List WorkerState → List (List Job)
taken_lists workers = map (λ (w : WorkerState). w.taken) workers
