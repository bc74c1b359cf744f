-- What a shift with a journal leaves.
use Rattle.std.specs.Prelude.{◌≡◌, List, length}
use Rattle.session_lanes.specs.Ends.{Streams}
use Rattle.journaled_hub.specs.declared.journaled.JournaledHub.{JournaledHub}
use Rattle.journaled_hub.specs.JournaledHubs.{history_of}
use Rattle.hub_workers.specs.Counts.{taken_lists}
use Rattle.hub_serving.specs.JournaledHubs.{KeepsJournal}
use Rattle.hub_shifts.specs.Shifts.{IsShift}
use Rattle.hub_shifts.specs.declared.journaled.JournaledShift.{JournaledShift}

-- A shift of one worker, on a hub that had a history. What came to the history are the calls of the jobs that the worker took, in their
-- order, each with its answer. Unless a call of the file failed, the journal has just the calls of the history, on the disk. A crash at
-- any moment of the shift left a front of the history that has all that was there before.
pub record IsJournaledShift {F : Type 0} (streams : List Streams) (began : JournaledHub F)
    (s : JournaledShift F) : Type 0 where
  pub shift : IsShift streams 1 s.shift
  pub earlier : s.shift.earlier ≡ length (history_of began)
  pub journal : KeepsJournal began s.shift.hub (taken_lists shift.worked) s.journal
