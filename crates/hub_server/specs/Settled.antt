-- When a shift is settled, and when it is not.
use Rattle.std.specs.Prelude.{◌≡◌, ℕ, ◌+◌, List, length}
use Rattle.session_lanes.specs.Ends.{Streams}
use Rattle.hub_shared.specs.declared.settling.SettleFault.{SettleFault}
use Rattle.hub_shared.specs.Settling.{IsTold, IsSettleFault}
use Rattle.hub_shifts.specs.declared.shift.Shift.{Shift}
use Rattle.hub_shifts.specs.Shifts.{IsShift}
use Rattle.hub_shifts.specs.Laws.{IsInOrder, AreInOrder}

-- A shift of so many sessions whose history is told by its tallies, and that made so many calls. The history is in order, and so
-- are the jobs of each session in its lane.
pub record IsSettledShift (sessions workers : ℕ) (s : Shift) (calls : ℕ) : Type 0 where
  pub streams : List Streams
  pub session_count : length streams ≡ sessions
  pub shift : IsShift streams workers s
  pub told : IsTold s.hub s.earlier s.tallies.items
  pub count : calls + s.earlier ≡ length s.hub
  pub in_order : IsInOrder s shift.served
  pub lanes : AreInOrder workers shift.worked s.left.items shift.served

-- a shift of so many sessions whose history is not told by its tallies, in this respect
pub record IsUnsettledShift (sessions workers : ℕ) (why : SettleFault) : Type 0 where
  pub s : Shift
  pub streams : List Streams
  pub session_count : length streams ≡ sessions
  pub shift : IsShift streams workers s
  pub not_told : IsTold s.hub s.earlier s.tallies.items → ⊥
  pub shows : IsSettleFault why s.hub s.earlier s.tallies.items
