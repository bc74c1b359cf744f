-- How what is written and what is read go together.
use Rattle.std.specs.Prelude.{◌≡◌, ℕ, List, Ok, true, IsUtf8}
use Rattle.serde_json.specs.Read.{read}
use Rattle.serde_json.specs.Written.{compact_text}
use Rattle.json_tokens.specs.SmallNumbers.{IsReadAsWritten}
use Rattle.call_reader.specs.Reading.{call_of, call_read}
use Rattle.wagon_number.specs.Digits.{IsVehicleNumber}
use Rattle.taf_codes.specs.Codes.{is_railway, is_name, is_unit_code}
use Rattle.reply_writer.specs.Shapes.{message_data}
use Rattle.reply_writer.specs.CallShapes.{call_data}
use Rattle.reply_writer.specs.RecordShapes.{record_data}
use Rattle.reply_writer.specs.ReplyShapes.{reply_data, item_data, fault_data}
use Rattle.taf_messages.specs.Kept.{IsMessage, IsBetween}
use Rattle.taf_messages.specs.declared.call.Call.{Call}
use Rattle.taf_messages.specs.declared.call.Call.TheVariants as calls
use Rattle.taf_messages.specs.declared.fault.RecordFault.{RecordFault}
use Rattle.taf_messages.specs.declared.item.Item.{Item}
use Rattle.taf_messages.specs.declared.message.Message.{Message}
use Rattle.taf_messages.specs.declared.record.Record.{Record}
use Rattle.taf_messages.specs.declared.reply.Reply.{Reply}

abbrev pub RepliesAreReadAsWritten : Type 0
RepliesAreReadAsWritten = (r : Reply) → IsReadAsWritten (reply_data r)

abbrev pub ItemsAreReadAsWritten : Type 0
ItemsAreReadAsWritten = (i : Item) → IsReadAsWritten (item_data i)

abbrev pub RecordsAreReadAsWritten : Type 0
RecordsAreReadAsWritten = (r : Record) → IsReadAsWritten (record_data r)

abbrev pub FaultsAreReadAsWritten : Type 0
FaultsAreReadAsWritten = (f : RecordFault) → IsReadAsWritten (fault_data f)

-- the tree of a message is the record of the call that sends it
abbrev pub MessagesAreTheirRecords : Type 0
MessagesAreTheirRecords = (m : Message) → IsMessage m → call_of (message_data m) ≡ Ok (calls.Send m)

-- a text is UTF-8, and what it says in JSON is this call
abbrev pub IsReadAs : List ℕ → Call → Type 0
IsReadAs text call = IsUtf8 text × (call_read (read text) ≡ Ok call)

-- and its text is read as that call
abbrev pub MessagesAreReadBack : Type 0
MessagesAreReadBack = (m : Message) → IsMessage m → IsReadAs (compact_text (message_data m)) (calls.Send m)

-- a call whose parts keep their limits
abbrev pub IsCall : Call → Type 0
IsCall (calls.Send m) = IsMessage m
IsCall (calls.Ask by wagon) = (is_railway by ≡ true) × IsVehicleNumber wagon
IsCall (calls.AskUnit by unit) = (is_railway by ≡ true) × (is_unit_code unit ≡ true)
IsCall (calls.Deviation by consignment) = (is_railway by ≡ true) × (is_name consignment ≡ true)
IsCall (calls.Fetch by limit) = (is_railway by ≡ true) × IsBetween 1 50 limit
IsCall (calls.Ack by item) = (is_railway by ≡ true) × IsBetween 0 999_999_999_999 item

-- the text of a call is read as the call
abbrev pub CallsAreReadBack : Type 0
CallsAreReadBack = (call : Call) → IsCall call → IsReadAs (compact_text (call_data call)) call

-- a call that was read keeps the limits of its parts
abbrev pub CallsReadAreKept : Type 0
CallsReadAreKept = (text : List ℕ) (call : Call) → call_read (read text) ≡ Ok call → IsCall call

-- a message that was read keeps the limits of its parts
abbrev pub WhatIsReadIsKept : Type 0
WhatIsReadIsKept = (text : List ℕ) (m : Message) → call_read (read text) ≡ Ok (calls.Send m) → IsMessage m

-- so a notice of it is read as the same call
abbrev pub NoticesAreReadBack : Type 0
NoticesAreReadBack = (text : List ℕ) (m : Message) → call_read (read text) ≡ Ok (calls.Send m) → IsReadAs (compact_text (message_data m)) (calls.Send m)
