-- Why a journal gives no hub, and why a hub takes no call.
use Rattle.std.specs.Prelude.{◌≡◌, ℕ, ◌+◌, ◌<◌, List, length, take, slice_get, Some}
use Rattle.taf_messages.specs.declared.call.Call.{Call}
use Rattle.tallies.specs.declared.fault.HubFault.{HubFault}
use Rattle.tallies.specs.declared.fault.HubFault.TheVariants as hub_fault
use Rattle.hub_model.specs.declared.entry.Entry.{Entry}
use Rattle.journal.specs.Lines.{recovered_lines}
use Rattle.journal.specs.Journals.{IsDamage}
use Rattle.journal.specs.declared.reader.JournalFault.{JournalFault}
use Rattle.journal.specs.declared.reader.JournalFault.TheVariants as journal_fault
use Rattle.journal_lines.specs.CallLines.{lines_of_calls, last_sum}
use Rattle.journal_lines.specs.LineFaults.{IsNoCall, HasOtherSum}
use Rattle.journal_lines.specs.declared.fault.LineFault.{LineFault}
use Rattle.journal_lines.specs.declared.fault.LineFault.TheVariants as line_fault
use Rattle.journaled_hub.specs.declared.fault.OpenFault.{OpenFault}
use Rattle.journaled_hub.specs.declared.fault.OpenFault.TheVariants.{Memory, Failed, Damaged, NoCall, OtherSum, Full}

-- a full hub hands the call back
abbrev pub HandsBack : HubFault → Call → ℕ → Type 0
HandsBack (hub_fault.Full handed) call n = (handed ≡ call) × (n ≡ 1000000)
HandsBack hub_fault.Memory call n = Unit {0}

-- why a line behind a line of the sum `before` does not come into the history; its number is counted from 1
abbrev pub IsFaultOfLine : OpenFault → List Entry → ℕ → List ℕ → ℕ → Type 0
IsFaultOfLine (NoCall at) history before line number = (at ≡ number) × IsNoCall line
IsFaultOfLine (OtherSum at) history before line number = (at ≡ number) × HasOtherSum before line
IsFaultOfLine Full history before line number = length history ≡ 1000000
IsFaultOfLine Memory history before line number = Unit {0}
IsFaultOfLine _ history before line number = ⊥

-- the line of this number, counted from 1, and the calls of the lines before it
pub record IsLineNumber (lines : List (List ℕ)) (number : ℕ) (line : List ℕ) (before : List Call) : Type 0 where
  pub index : ℕ
  pub number_is : number ≡ index + 1
  pub line_is : slice_get lines index ≡ Some line
  pub before_are : lines_of_calls before ≡ take index lines

-- this line is the line of no call
abbrev pub HasNoCall : List (List ℕ) → ℕ → Type 0
HasNoCall lines number = (line : List ℕ) × ((before : List Call) × (IsLineNumber lines number line before × IsNoCall line))

-- this line has another sum than it and the line before give
abbrev pub HasWrongSum : List (List ℕ) → ℕ → Type 0
HasWrongSum lines number = (line : List ℕ) × ((before : List Call) × (IsLineNumber lines number line before × HasOtherSum (last_sum before) line))

-- each fault of lines comes only where it is so
abbrev pub IsFaultOfLines : OpenFault → List (List ℕ) → Type 0
IsFaultOfLines (NoCall number) lines = HasNoCall lines number
IsFaultOfLines (OtherSum number) lines = HasWrongSum lines number
IsFaultOfLines Full lines = 1000000 < length lines
IsFaultOfLines Memory lines = Unit {0}
IsFaultOfLines _ lines = ⊥

-- and each fault of a file
abbrev pub IsOpenFault : OpenFault → List ℕ → Type 0
IsOpenFault (Damaged whole) bytes = IsDamage (journal_fault.Damaged whole) bytes
IsOpenFault Failed bytes = Unit {0}
IsOpenFault fault bytes = IsFaultOfLines fault (recovered_lines bytes)

-- the fault of a journal that is not read on for this one
abbrev pub fault_of_journal : JournalFault → OpenFault
fault_of_journal journal_fault.Memory = Memory
fault_of_journal journal_fault.Failed = Failed
fault_of_journal (journal_fault.Damaged whole) = Damaged whole

-- that of a journal whose line of this number is not taken for this fault
abbrev pub fault_of_line : LineFault → ℕ → OpenFault
fault_of_line line_fault.Memory number = Memory
fault_of_line line_fault.NoCall number = NoCall number
fault_of_line line_fault.OtherSum number = OtherSum number
