-- The calls of the next lines of a journal.
use Rattle.std.specs.Prelude.{◌≡◌, ℕ, ◌<◌, Bool, true, false, List, [], ◌∷◌, ◌++◌, Vec, Option, None, Some, Result, Ok, Err, fold, All}
use Rattle.std.specs.declared.alloc.Global.{Global}
use Rattle.reply_writer.specs.Laws.{IsCall}
use Rattle.hub_model.specs.declared.entry.Entry.{Entry}
use Rattle.journal.specs.Lines.{text_lines}
use Rattle.journal.specs.Journals.{bytes_read, given_lines, IsReading, IsAtEnd, IsDamage}
use Rattle.journal.specs.declared.reader.JournalFault.{JournalFault}
use Rattle.journal.specs.declared.reader.JournalReader.{JournalReader}
use Rattle.journal_lines.specs.CallLines.{call_sum, lines_after, lines_of_calls, last_sum}
use Rattle.journal_lines.specs.LineFaults.{IsLineFault}
use Rattle.journal_lines.specs.declared.fault.LineFault.{LineFault}
use Rattle.journaled_hub.specs.HistoryLines.{calls_of}
use Rattle.journaled_hub.specs.declared.call_batch.CallBatch.{CallBatch}
use Rattle.journaled_hub.specs.declared.fault.OpenFault.{OpenFault}
use Rattle.journaled_hub.specs.declared.fault.OpenFault.TheVariants.{Memory, Full}

-- the first of the lines, behind a line of this sum, is not taken for this fault
pub record IsNotTaken (lines : List (List ℕ)) (before : ℕ) (fault : LineFault) : Type 0 where
  pub line : List ℕ
  pub rest : List (List ℕ)
  pub split : lines ≡ line ∷ rest
  pub is : IsLineFault fault before line

-- these lines are left behind calls whose last line has this sum: none, or the first of them is not taken
abbrev pub IsLeft : Option LineFault → List (List ℕ) → ℕ → Type 0
IsLeft None left sum = left ≡ []
IsLeft (Some fault) left sum = IsNotTaken left sum fault

-- the calls of the first of the lines, behind a line of the sum `before`, up to one that is not taken
pub record IsCallBatch (lines : List (List ℕ)) (before : ℕ) (batch : CallBatch) : Type 0 where
  pub left : List (List ℕ)
  pub lines_are : lines ≡ lines_after before batch.calls.items ++ left
  pub sum : batch.sum ≡ fold call_sum before batch.calls.items
  pub limits : All IsCall batch.calls.items
  pub is_left : IsLeft batch.fault left batch.sum

-- what a reader gave last: batches, the end of the file, or a fault
abbrev pub Given : Type 0
Given = Result (Option (Vec ℕ Global)) JournalFault

-- whether it gave batches
abbrev pub has_text : Given → Bool
has_text (Ok (Some text)) = true
has_text _ = false

-- the lines of the batches
abbrev pub lines_given : Given → List (List ℕ)
lines_given (Ok (Some text)) = text_lines text.items
lines_given _ = []

-- what a reader has come to that gave this
abbrev pub HasComeTo : {F : Type 0} → JournalReader F → Given → Type 0
HasComeTo reader (Ok None) = IsAtEnd reader
HasComeTo reader (Err fault) = IsDamage fault (bytes_read reader)
HasComeTo reader _ = Unit {0}

-- the reader gave this, behind the lines that it had given
pub record HasGiven {F : Type 0} (before : List (List ℕ)) (reader : JournalReader F) (given : Given) : Type 0 where
  pub reading : IsReading reader
  pub lines : given_lines reader ≡ before ++ lines_given given
  pub come_to : HasComeTo reader given

-- why a hub does not take so many calls in all
abbrev pub IsFaultOfCalls : OpenFault → ℕ → Type 0
IsFaultOfCalls Full count = 1000000 < count
IsFaultOfCalls Memory count = Unit {0}
IsFaultOfCalls _ count = ⊥

-- The reader gave this last. The lines that it had given before are those of the calls of a history and then of a batch, up to one
-- that is not taken.
pub record IsAhead {F : Type 0} (reader : JournalReader F) (given : Given) (history : List Entry) (batch : CallBatch) : Type 0 where
  pub before : List (List ℕ)
  pub has_given : HasGiven before reader given
  pub left : List (List ℕ)
  pub lines : before ≡ lines_of_calls (calls_of history ++ batch.calls.items) ++ left
  pub sum : batch.sum ≡ last_sum (calls_of history ++ batch.calls.items)
  pub limits : All IsCall (calls_of history ++ batch.calls.items)
  pub is_left : IsLeft batch.fault left batch.sum
