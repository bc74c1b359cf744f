-- When a line is not taken.
use Rattle.std.specs.Prelude.{◌≡◌, ◌≢◌, ℕ, true, List}
use Rattle.taf_messages.specs.declared.call.Call.{Call}
use Rattle.taf_messages.specs.declared.fault.RecordFault.{RecordFault}
use Rattle.taf_messages.specs.declared.fault.RecordFault.TheVariants as record_fault
use Rattle.reply_writer.specs.Laws.{IsCall}
use Rattle.journal_lines.specs.Sums.{digits_of, are_sum_digits}
use Rattle.journal_lines.specs.CallLines.{line_with, call_sum}
use Rattle.journal_lines.specs.declared.fault.LineFault.{LineFault}
use Rattle.journal_lines.specs.declared.fault.LineFault.TheVariants.{Memory, NoCall, OtherSum}

-- the fault of a line that has this fault as a record
abbrev pub fault_of_record : RecordFault → LineFault
fault_of_record record_fault.Memory = Memory
fault_of_record _ = NoCall

-- it is the line of no call, with whatever sum
abbrev pub IsNoCall : List ℕ → Type 0
IsNoCall line = (digits : List ℕ) (call : Call) → are_sum_digits digits ≡ true → IsCall call → line ≢ line_with digits call

-- it is the line of a call, with another sum than the one behind a line of the sum `before`
pub record HasOtherSum (before : ℕ) (line : List ℕ) : Type 0 where
  pub digits : List ℕ
  pub call : Call
  pub is_sum : are_sum_digits digits ≡ true
  pub is_line : line ≡ line_with digits call
  pub other : digits ≢ digits_of (call_sum before call)

-- each fault comes only where it is so
abbrev pub IsLineFault : LineFault → ℕ → List ℕ → Type 0
IsLineFault Memory before line = Unit {0}
IsLineFault NoCall before line = IsNoCall line
IsLineFault OtherSum before line = HasOtherSum before line
