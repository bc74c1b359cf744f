-- What a line means to a session.
use Rattle.std.specs.Prelude.{ℕ, nat_lt, ◌||◌, not, Bool, false, List, length, Option, Some, None, Result, Ok, Err, bytes_eq, codes, option_and_then, if◌then◌else◌}
use Rattle.std.specs.Str.{is_utf8}
use Rattle.serde_json.specs.Data.{Data}
use Rattle.serde_json.specs.Find.{get, as_str}
use Rattle.serde_json.specs.Read.{read as read_json}
use Rattle.taf_codes.specs.declared.code.Railway.{Railway}
use Rattle.taf_messages.specs.declared.field.Field.TheVariants as fields
use Rattle.taf_messages.specs.declared.fault.RecordFault.{RecordFault}
use Rattle.taf_messages.specs.declared.call.Call.{Call}
use Rattle.taf_messages.specs.declared.call.Call.TheVariants.{Send, Ask, AskUnit, Deviation, Fetch, Ack}
use Rattle.call_reader.specs.Values as value_of
use Rattle.call_reader.specs.Reading.{field_of}
use Rattle.call_lines.specs.declared.parsed.ParsedLine.{ParsedLine}
use Rattle.call_lines.specs.declared.parsed.ParsedLine.TheVariants as lines
use Rattle.call_lines.specs.Lines.{is_blank, parsed_line, fault_text}
use Rattle.session_lines.specs.declared.fault.LineFault.TheVariants.{LineTooLong, NoHello, WrongSender, NoMemory}
use Rattle.session_lines.specs.declared.meaning.Meaning.{Meaning}
use Rattle.session_lines.specs.declared.meaning.Meaning.TheVariants.{Blank, Hello, Wrong, Calls}
use Rattle.session_lines.specs.Texts.{line_fault_text}

-- who makes a call
abbrev pub sender_of : Call → Railway
sender_of (Send message) = message.by
sender_of (Ask by wagon) = by
sender_of (AskUnit by unit) = by
sender_of (Deviation by consignment) = by
sender_of (Fetch by limit) = by
sender_of (Ack by item) = by

-- a call is to be one of the session's railway
abbrev pub call_meaning : Railway → Call → Meaning
call_meaning own call =
    if bytes_eq (sender_of call) own then Calls call else Wrong (line_fault_text WrongSender)

-- a line after the hello
abbrev pub meaning_after_hello : Railway → ParsedLine → Meaning
meaning_after_hello own lines.TooLong = Wrong (line_fault_text LineTooLong)
meaning_after_hello own lines.Blank = Blank
meaning_after_hello own (lines.Fault fault) = Wrong (fault_text fault)
meaning_after_hello own (lines.Called call) = call_meaning own call

-- the kind of a record is that of a hello
abbrev pub is_hello_kind : Option (List ℕ) → Bool
is_hello_kind None = false
is_hello_kind (Some kind) = bytes_eq kind (codes "hello")

-- a record that has it
abbrev pub is_hello : Data → Bool
is_hello d = is_hello_kind (option_and_then as_str (get (codes "kind") d))

-- the railway of a hello, or the fault of its field
abbrev pub hello_meaning : Result Railway RecordFault → Meaning
hello_meaning (Ok railway) = Hello railway
hello_meaning (Err fault) = Wrong (fault_text fault)

-- what is no hello has to wait for one
abbrev pub first_record_meaning : Data → Meaning
first_record_meaning d =
    if is_hello d then hello_meaning (field_of value_of.railway fields.From d)
    else Wrong (line_fault_text NoHello)

-- nor is what is no JSON a hello
abbrev pub first_json_meaning : Option Data → Meaning
first_json_meaning None = Wrong (line_fault_text NoHello)
first_json_meaning (Some d) = first_record_meaning d

-- a line that is no UTF-8 is no JSON
unfoldable pub json_of_line : List ℕ → Option Data
json_of_line line = if is_utf8 line then read_json line else None

-- a line that is neither too long nor blank, before the hello or after it
abbrev pub text_meaning : Option Railway → List ℕ → Meaning
text_meaning None line = first_json_meaning (json_of_line line)
text_meaning (Some own) line = meaning_after_hello own (parsed_line line)

-- a line that is too long, or blank, means that alone
unfoldable pub meaning_by_length : List ℕ → Meaning → Meaning
meaning_by_length line otherwise =
    if nat_lt 65536 (length line) then Wrong (line_fault_text LineTooLong)
    else if is_blank line then Blank
    else otherwise

-- what a line means to a session that has had the hello of a railway, or none
abbrev pub meaning : Option Railway → List ℕ → Meaning
meaning railway line = meaning_by_length line (text_meaning railway line)

-- what it means where memory is refused: a line that is too long, or blank, takes none
abbrev pub meaning_without_memory : List ℕ → Meaning
meaning_without_memory line = meaning_by_length line (Wrong (line_fault_text NoMemory))

-- a line that is answered: each but a blank one that is not too long
abbrev pub is_answered : List ℕ → Bool
is_answered line = nat_lt 65536 (length line) || not (is_blank line)
