-- What a service with a journal leaves.
use Rattle.std.specs.Prelude.{◌≡◌, ℕ, length}
use Rattle.journaled_hub.specs.declared.journaled.JournaledHub.{JournaledHub}
use Rattle.journaled_hub.specs.JournaledHubs.{history_of}
use Rattle.hub_workers.specs.Counts.{taken_lists}
use Rattle.hub_serving.specs.JournaledHubs.{KeepsJournal}
use Rattle.hub_service.specs.Services.{IsService}
use Rattle.hub_service.specs.declared.journaled.JournaledService.{JournaledService}

-- A service of one worker, on a hub that had a history. What came to the history are the calls of the jobs that the worker took, in
-- their order, each with its answer. Unless a call of the file failed, the journal has just the calls of the history, on the disk. A
-- crash at any moment of the service left a front of the history that has all that was there before.
pub record IsJournaledService {F : Type 0} (handlers : ℕ) (began : JournaledHub F)
    (s : JournaledService F) : Type 0 where
  pub service : IsService handlers 1 s.service
  pub earlier : s.service.earlier ≡ length (history_of began)
  pub journal : KeepsJournal began s.service.hub (taken_lists service.worked) s.journal
