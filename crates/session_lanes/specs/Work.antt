-- What the thread of a worker gives back.
use Rattle.inbox.specs.States.{PassState}
use Rattle.session_lanes.specs.Lanes.{TakesOnly}

-- by its pass the worker took jobs and put none, and by what it began with it has worked, as workers of its kind do
pub record IsWorkOf {W : Type 0} (pass : W → PassState) (has_worked : W → W → Type 0)
    (began : W) (w : W) : Type 0 where
  pub takes_only : TakesOnly (pass began) (pass w)
  pub worked : has_worked began w
