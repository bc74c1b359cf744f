-- What contracts see of a hub whose calls are in a journal.
use Rattle.std.specs.Prelude.{◌≡◌, ℕ, Bool, false, List, [], ◌++◌}
use Rattle.log_file.specs.declared.past.Past.{Past}
use Rattle.journal.specs.declared.journal.Journal.{Journal}
use Rattle.journal.specs.Journals.{journal_past, has_failed as journal_failed, lines_of, IsWholeOnDisk}
use Rattle.hub_model.specs.declared.entry.Entry.{Entry}
use Rattle.journal_lines.specs.CallLines.{last_sum}
use Rattle.journaled_hub.specs.HistoryLines.{calls_of, lines_of_history}
use Rattle.journaled_hub.specs.declared.journaled.JournaledHub.{JournaledHub}

-- its history
abbrev pub history_of : {F : Type 0} → JournaledHub F → List Entry
history_of hub = hub.hub

-- its journal
abbrev pub journal_of : {F : Type 0} → JournaledHub F → Journal F
journal_of hub = hub.journal

-- the lines that were noted and are not on the disk yet
abbrev pub pending_of : {F : Type 0} → JournaledHub F → List (List ℕ)
pending_of hub = hub.pending

-- what was done with its file
abbrev pub past_of : {F : Type 0} → JournaledHub F → Past
past_of hub = journal_past hub.journal

-- whether a call of its file failed
abbrev pub has_failed : {F : Type 0} → JournaledHub F → Bool
has_failed hub = journal_failed hub.journal

-- the lines on the disk
abbrev pub durable_lines : {F : Type 0} → JournaledHub F → List (List ℕ)
durable_lines hub = lines_of hub.journal

-- The journal is whole on the disk, and has, with the lines that were noted, those of the calls of this history, in order. A
-- further line begins its sum from that of the last one.
pub record HasNoted {F : Type 0} (hub : JournaledHub F) (history : List Entry) : Type 0 where
  pub on_disk : IsWholeOnDisk (journal_past hub.journal) (journal_failed hub.journal)
  pub lines : journal_failed hub.journal ≡ false → lines_of hub.journal ++ hub.pending ≡ lines_of_history history
  pub last : hub.sum ≡ last_sum (calls_of history)

-- the calls of its history are noted
abbrev pub IsJournaled : {F : Type 0} → JournaledHub F → Type 0
IsJournaled hub = HasNoted hub hub.hub

-- and all of them are on the disk
pub record IsOnDisk {F : Type 0} (hub : JournaledHub F) : Type 0 where
  pub journaled : IsJournaled hub
  pub sound : journal_failed hub.journal ≡ false
  pub none : hub.pending ≡ []
