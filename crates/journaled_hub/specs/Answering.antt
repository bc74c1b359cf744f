-- What lines lead to, and how far it is on the disk.
use Rattle.std.specs.Prelude.{◌≡◌, ℕ, List, ◌++◌}
use Rattle.hub_model.specs.declared.entry.Entry.{Entry}
use Rattle.call_lines.specs.declared.parsed.ParsedLine.{ParsedLine}
use Rattle.hub_replay.specs.Outcomes.{outcome, start_of}
use Rattle.journaled_hub.specs.JournaledHubs.{history_of, IsOnDisk}
use Rattle.journaled_hub.specs.declared.journaled.JournaledHub.{JournaledHub}

-- the lines lead from the old entries to the new ones, and this is written
pub record LeadsTo (old : List Entry) (lines : List ParsedLine) (new : List Entry) (written : List ℕ) : Type 0 where
  pub entries : (outcome (start_of old) lines).entries ≡ new
  pub output : (outcome (start_of old) lines).output ≡ written

-- The lines were answered up to some place: what was written is a front of the answers to the first of them, and these lead to
-- the entries that are on the disk.
pub record IsStoppedOnDisk (old : List Entry) (lines : List ParsedLine) (written : List ℕ) (durable : List Entry) : Type 0 where
  pub complete : List ParsedLine
  pub rest : List ParsedLine
  pub split : lines ≡ complete ++ rest
  pub lacks : List ℕ
  pub leads : LeadsTo old complete durable (written ++ lacks)

-- these bytes are answers to lines that led to the history of the hub, all of which is on the disk
pub record MayBeWritten {F : Type 0} (hub : JournaledHub F) (replies : List ℕ) : Type 0 where
  pub before : List Entry
  pub lines : List ParsedLine
  pub leads : LeadsTo before lines (history_of hub) replies
  pub on_disk : IsOnDisk hub
