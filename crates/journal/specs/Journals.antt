-- What contracts see of a journal.
use Rattle.std.specs.Prelude.{◌≡◌, ◌≤◌, ◌^◌, ℕ, Bool, true, false, List, length, take, drop}
use Rattle.log_file.specs.declared.past.Past.{Past}
use Rattle.log_file.specs.Crashes.{content_of, IsSynced}
use Rattle.log_file.specs.Files.{past_of, read_of, content_read, after_open, IsReadToEnd}
use Rattle.journal.specs.Lines.{recovered_lines, AreWhole, HasWholeBatches, IsNeverLeft}
use Rattle.journal.specs.declared.journal.Journal.{Journal}
use Rattle.journal.specs.declared.reader.JournalReader.{JournalReader}
use Rattle.journal.specs.declared.reader.JournalFault.{JournalFault}
use Rattle.journal.specs.declared.reader.JournalFault.TheVariants.{Memory, Failed, Damaged}
use Rattle.log_file.specs.declared.reader.ReadFault.{ReadFault}
use Rattle.log_file.specs.declared.reader.ReadFault.TheVariants as read_fault

-- what was done with its file
abbrev pub journal_past : {F : Type 0} → Journal F → Past
journal_past journal = past_of journal.file

-- the lines that its file stands for
abbrev pub lines_of : {F : Type 0} → Journal F → List (List ℕ)
lines_of journal = recovered_lines (content_of (past_of journal.file))

-- whether a call of its file failed
abbrev pub has_failed : {F : Type 0} → Journal F → Bool
has_failed journal = journal.has_failed

-- unless a call failed, the file is whole batches, all of them on the disk
pub record IsWholeOnDisk (past : Past) (failed : Bool) : Type 0 where
  pub synced : failed ≡ false → IsSynced past
  pub whole : failed ≡ false → AreWhole (content_of past) (recovered_lines (content_of past))

-- damage: the whole batches end at the index, behind it a batch ends and more follows, and no crash leaves that
abbrev pub IsDamage : JournalFault → List ℕ → Type 0
IsDamage (Damaged whole) bytes = HasWholeBatches bytes (recovered_lines bytes) whole false × IsNeverLeft bytes
IsDamage _ bytes = Unit {0}

-- ---- a journal that is read

-- what was read of its file
abbrev pub bytes_read : {F : Type 0} → JournalReader F → List ℕ
bytes_read reader = read_of reader.file

-- the same, as what was done with the file
abbrev pub past_read : {F : Type 0} → JournalReader F → Past
past_read reader = after_open (content_read reader.file)

-- how many bytes the batches have that were given
abbrev pub whole_len : {F : Type 0} → JournalReader F → ℕ
whole_len reader = reader.whole

-- what was read behind them
abbrev pub torn_bytes : {F : Type 0} → JournalReader F → List ℕ
torn_bytes reader = reader.rest.items

-- their lines
abbrev pub given_lines : {F : Type 0} → JournalReader F → List (List ℕ)
given_lines reader = recovered_lines (take (whole_len reader) (bytes_read reader))

-- of these bytes, the first ones, so many, are whole batches, and this is the rest
pub record IsSplit (bytes : List ℕ) (whole : ℕ) (rest : List ℕ) : Type 0 where
  pub within : whole ≤ length bytes
  pub few : length bytes ≤ 2 ^ 40
  pub rest_is : rest ≡ drop whole bytes
  pub front : AreWhole (take whole bytes) (recovered_lines (take whole bytes))

-- the batches that were given are whole, and the reader has what was read behind them
abbrev pub IsReading : {F : Type 0} → JournalReader F → Type 0
IsReading reader = IsSplit (bytes_read reader) (whole_len reader) (torn_bytes reader)

-- the file was read to its end, all whole batches were given, and what is behind them may be a torn end
pub record IsAtEnd {F : Type 0} (reader : JournalReader F) : Type 0 where
  pub ended : IsReadToEnd reader.file
  pub batches : HasWholeBatches (bytes_read reader) (recovered_lines (bytes_read reader)) (whole_len reader) true

-- why a journal is not read on, where a piece of its file was not read
abbrev pub fault_of_read : ReadFault → JournalFault
fault_of_read read_fault.Memory = Memory
fault_of_read read_fault.Failed = Failed
