-- What contracts see of a hub whose journal was read, and not opened yet.
use Rattle.std.specs.Prelude.{◌≡◌, List, All}
use Rattle.reply_writer.specs.Laws.{IsCall}
use Rattle.hub_model.specs.declared.entry.Entry.{Entry}
use Rattle.journal.specs.Lines.{recovered_lines}
use Rattle.journal.specs.Journals.{bytes_read, IsReading, IsAtEnd}
use Rattle.journal.specs.declared.reader.JournalReader.{JournalReader}
use Rattle.journal_lines.specs.CallLines.{last_sum}
use Rattle.journaled_hub.specs.HistoryLines.{calls_of, lines_of_history}
use Rattle.journaled_hub.specs.declared.recovery.RecoveredHub.{RecoveredHub}

-- its history
abbrev pub history_read : {F : Type 0} → RecoveredHub F → List Entry
history_read recovered = recovered.hub

-- the journal, as far as it was read
abbrev pub reader_of : {F : Type 0} → RecoveredHub F → JournalReader F
reader_of recovered = recovered.reader

-- The journal was read to its end. The hub has the calls of its lines, in order, whose parts keep their limits. A further line begins
-- its sum from that of the last one.
pub record IsRecovered {F : Type 0} (recovered : RecoveredHub F) : Type 0 where
  pub reading : IsReading (reader_of recovered)
  pub at_end : IsAtEnd (reader_of recovered)
  pub lines : lines_of_history (history_read recovered) ≡ recovered_lines (bytes_read (reader_of recovered))
  pub limits : All IsCall (calls_of (history_read recovered))
  pub last : recovered.sum ≡ last_sum (calls_of (history_read recovered))
