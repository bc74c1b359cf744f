-- What a line says, where it ends, and what is written of replies and faults.
use Rattle.std.specs.Prelude.{◌≡◌, ◌<◌, ◌≤◌, ℕ, ◌==◌, ◌||◌, nat_lt, not, Bool, true, List, length, slice_index, slice_range, Result, Ok, Err, if◌then◌else◌}
use Rattle.std.specs.List.{list_all}
use Rattle.std.specs.Str.{is_utf8}
use Rattle.serde_json.specs.Read.{read as read_json}
use Rattle.serde_json.specs.Written.{compact_text}
use Rattle.taf_messages.specs.declared.call.Call.{Call}
use Rattle.taf_messages.specs.declared.reply.Reply.{Reply}
use Rattle.taf_messages.specs.declared.fault.RecordFault.{RecordFault}
use Rattle.taf_messages.specs.declared.fault.RecordFault.TheVariants.{BadJson, Memory}
use Rattle.call_reader.specs.Reading.{call_read}
use Rattle.reply_writer.specs.ReplyShapes.{reply_data, fault_data}
use Rattle.call_lines.specs.declared.parsed.ParsedLine.{ParsedLine}
use Rattle.call_lines.specs.declared.parsed.ParsedLine.TheVariants.{Blank, TooLong, Fault, Called}

-- blanks, tabs and carriage returns alone, or nothing
abbrev pub is_blank : List ℕ → Bool
is_blank = list_all (λ b. b == 32 || b == 9 || b == 13)

-- the call of a line, or its first fault; a line that is no UTF-8 is no JSON
unfoldable pub call_in : List ℕ → Result Call RecordFault
call_in line = if is_utf8 line then call_read (read_json line) else Err BadJson

abbrev pub parsed_as : Result Call RecordFault → ParsedLine
parsed_as (Ok call) = Called call
parsed_as (Err fault) = Fault fault

-- what a line says
unfoldable pub parsed_line : List ℕ → ParsedLine
parsed_line line = if nat_lt 65536 (length line) then TooLong else if is_blank line then Blank else parsed_as (call_in line)

-- want of memory is no fault of a line
abbrev pub IsNotMemory : ParsedLine → Type 0
IsNotMemory (Fault Memory) = ⊥
IsNotMemory _ = Unit {0}

-- the text that tells a fault
abbrev pub fault_text : RecordFault → List ℕ
fault_text fault = compact_text (fault_data fault)

-- the text of a reply
abbrev pub reply_text : Reply → List ℕ
reply_text reply = compact_text (reply_data reply)

-- no newline among the bytes
abbrev pub has_no_newline : List ℕ → Bool
has_no_newline = list_all (λ b. not (b == 10))

-- a newline stands at the end, and none from the place up to it
abbrev pub IsNextNewline : List ℕ → ℕ → ℕ → Type 0
IsNextNewline bytes from end =
    (from ≤ end) × (end < length bytes) × (slice_index bytes end ≡ 10) × (has_no_newline (slice_range bytes from end) ≡ true)
