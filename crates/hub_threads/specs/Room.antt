-- The lists that the end of the lanes fills.
use Rattle.std.specs.Prelude.{ℕ}
use Rattle.session_lanes.specs.Room.{IsEmptyWithRoom}
use Rattle.hub_threads.specs.declared.lanes.LanesEnd.{LanesEnd}

-- they are empty, and have room for what comes of so many that serve and so many lanes
pub record HasRoomFor (sessions lanes : ℕ) (room : LanesEnd) : Type 0 where
  pub ends : IsEmptyWithRoom room.outcomes.ends sessions
  pub tallies : IsEmptyWithRoom room.outcomes.tallies sessions
  pub left : IsEmptyWithRoom room.left lanes
