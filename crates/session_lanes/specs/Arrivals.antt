-- What comes to the worker of a lane.
use Rattle.std.specs.Prelude.{◌≡◌, Bool, true, false}
use Rattle.inbox.specs.States.{PassState, after_take}
use Rattle.session_lanes.specs.declared.queues.Arrival.{Arrival}
use Rattle.session_lanes.specs.declared.queues.Arrival.TheVariants.{Job}

abbrev pub is_job : Arrival → Bool
is_job (Job job) = true
is_job _ = false

-- a job that came was taken by the pass, and nothing else was
abbrev pub HasArrived : Arrival → PassState → PassState → Type 0
HasArrived (Job job) before after = after ≡ after_take before job
HasArrived _ before after = after ≡ before
