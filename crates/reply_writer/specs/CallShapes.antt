-- The records of calls: keys in byte order.
use Rattle.std.specs.Prelude.{ℕ, List, ◌++◌, codes}
use Rattle.taf_codes.specs.declared.code.Railway.{Railway}
use Rattle.serde_json.specs.Data.{Data}
use Rattle.taf_messages.specs.declared.call.Call.{Call}
use Rattle.taf_messages.specs.declared.call.Call.TheVariants.{Send, Ask, AskUnit, Deviation, Fetch, Ack}
use Rattle.json_tokens.specs.Texts.{Fields, field, fields, whole, text}
use Rattle.reply_writer.specs.Shapes.{wagon_text, body_fields}

-- the question for the wagons of a consignment
unfoldable pub deviation_fields : Railway → List ℕ → Fields
deviation_fields by consignment = field text (codes "consignment") consignment ++ field text (codes "from") by ++ field text (codes "kind") (codes "deviation")

-- the fields of the record by which a railway makes the call
unfoldable pub call_fields : Call → Fields
call_fields (Send m) = body_fields m.by m.no m.body
call_fields (Ask by wagon) = field text (codes "from") by ++ field text (codes "kind") (codes "ask") ++ field wagon_text (codes "wagon") wagon
call_fields (AskUnit by unit) = field text (codes "from") by ++ field text (codes "kind") (codes "ask_unit") ++ field text (codes "unit") unit
call_fields (Deviation by consignment) = deviation_fields by consignment
call_fields (Fetch by limit) = field text (codes "from") by ++ field text (codes "kind") (codes "fetch") ++ field whole (codes "limit") limit
call_fields (Ack by item) = field text (codes "from") by ++ field whole (codes "item") item ++ field text (codes "kind") (codes "ack")

-- that record
abbrev pub call_data : Call → Data
call_data call = fields (call_fields call)
