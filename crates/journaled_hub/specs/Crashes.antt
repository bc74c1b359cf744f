-- What a crash leaves of a hub's history.
use Rattle.std.specs.Prelude.{◌≡◌, ℕ, ◌≤◌, List, ◌++◌, length}
use Rattle.log_file.specs.Crashes.{LeavesOnly}
use Rattle.journal.specs.Lines.{StandsFor}
use Rattle.hub_model.specs.declared.entry.Entry.{Entry}
use Rattle.journaled_hub.specs.HistoryLines.{lines_of_history}
use Rattle.journaled_hub.specs.JournaledHubs.{history_of, past_of}
use Rattle.journaled_hub.specs.declared.journaled.JournaledHub.{JournaledHub}

-- the bytes of a file stand for a front of the history that has at least so many entries
pub record IsFrontOnDisk (least : ℕ) (history : List Entry) (bytes : List ℕ) : Type 0 where
  pub front : List Entry
  pub rest : List Entry
  pub split : history ≡ front ++ rest
  pub enough : least ≤ length front
  pub stands : StandsFor bytes (lines_of_history front)

-- The history of the new hub goes on from that of the old one. A crash at any moment since the old one leaves a front of it that has
-- at least all that was there then.
pub record HasGoneOn {F : Type 0} (old new : JournaledHub F) : Type 0 where
  pub more : List Entry
  pub grows : history_of new ≡ history_of old ++ more
  pub any_moment : LeavesOnly (past_of old) (past_of new)
      (IsFrontOnDisk (length (history_of old)) (history_of new))
