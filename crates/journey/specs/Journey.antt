-- What a track is seen as.
use Rattle.std.specs.Prelude.{ℕ, List}
use Rattle.journey.specs.declared.event.Event.{Event}

-- a wagon and the events of its journey, oldest first
pub record Journey : Type 0 where
  pub wagon : ℕ
  pub events : List Event
