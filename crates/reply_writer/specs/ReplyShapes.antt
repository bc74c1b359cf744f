-- The JSON of replies, items and faults: keys in byte order.
use Rattle.std.specs.Prelude.{ℕ, [], ◌++◌, codes}
use Rattle.serde_json.specs.Data.{Data}
use Rattle.taf_messages.specs.declared.item.Item.{Item}
use Rattle.taf_messages.specs.declared.item.SubNotice.{SubNotice}
use Rattle.taf_messages.specs.declared.item.ItemBody.{ItemBody}
use Rattle.taf_messages.specs.declared.item.ItemBody.TheVariants.{Notice, Sub, Eti, Eta, AlertBegins, AlertEnds}
use Rattle.taf_messages.specs.declared.reply.Reply.{Reply}
use Rattle.taf_messages.specs.declared.reply.Reply.TheVariants.{Accepted, Refused, One, Many, Items, Acknowledged}
use Rattle.taf_messages.specs.declared.fault.RecordFault.{RecordFault}
use Rattle.taf_messages.specs.declared.fault.RecordFault.TheVariants.{BadJson, BadKind, MissingField, BadField, BadPlan, Memory}
use Rattle.taf_messages.specs.Names.{field_name}
use Rattle.taf_messages.specs.Details.{why_name}
use Rattle.json_tokens.specs.Texts.{Fields, field, field_if, fields, whole, text, list_of}
use Rattle.reply_writer.specs.Shapes.{at_text, wagon_text, message_data}
use Rattle.reply_writer.specs.RecordShapes.{record_data}

-- ---- items of an outbox

unfoldable pub sub_fields : ℕ → SubNotice → Fields
sub_fields number s =
    field at_text (codes "at") s.at ++ field text (codes "from") s.from ++ field whole (codes "item") number ++ field whole (codes "offer") s.offer ++
    field text (codes "offerer") s.offerer ++ field text (codes "type") (codes "sub") ++ field (list_of wagon_text) (codes "wagons") s.wagons

unfoldable pub eti_fields : ℕ → ℕ → ℕ → ℕ → Fields
eti_fields number wagon leg at =
    field at_text (codes "at") at ++ field whole (codes "item") number ++ field whole (codes "leg") leg ++ field text (codes "type") (codes "eti") ++
    field wagon_text (codes "wagon") wagon

unfoldable pub item_fields : ℕ → ItemBody → Fields
item_fields number (Notice m) =
    field whole (codes "item") number ++ field message_data (codes "message") m ++ field text (codes "type") (codes "notice")
item_fields number (Sub s) = sub_fields number s
item_fields number (Eti wagon leg at) = eti_fields number wagon leg at
item_fields number (Eta wagon at) =
    field at_text (codes "at") at ++ field whole (codes "item") number ++ field text (codes "type") (codes "eta") ++ field wagon_text (codes "wagon") wagon
item_fields number (AlertBegins wagon late_by) =
    field whole (codes "item") number ++ field whole (codes "late_by") late_by ++ field text (codes "type") (codes "alert_begins") ++
    field wagon_text (codes "wagon") wagon
item_fields number (AlertEnds wagon) =
    field whole (codes "item") number ++ field text (codes "type") (codes "alert_ends") ++ field wagon_text (codes "wagon") wagon

abbrev pub item_data : Item → Data
item_data i = fields (item_fields i.number i.body)

-- ---- replies

unfoldable pub reply_fields : Reply → Fields
reply_fields (Accepted number) = field whole (codes "no") number ++ field text (codes "reply") (codes "accepted")
reply_fields (Refused r) =
    field_if whole (codes "last") r.last ++ field_if whole (codes "no") r.no ++ field text (codes "reply") (codes "refused") ++
    field_if wagon_text (codes "wagon") r.wagon ++ field text (codes "why") (why_name r.why)
reply_fields (One r) = field record_data (codes "record") r ++ field text (codes "reply") (codes "record")
reply_fields (Many rs) = field (list_of record_data) (codes "records") rs ++ field text (codes "reply") (codes "records")
reply_fields (Items is) = field (list_of item_data) (codes "items") is ++ field text (codes "reply") (codes "items")
reply_fields (Acknowledged number) = field whole (codes "acknowledged") number ++ field text (codes "reply") (codes "acknowledged")

abbrev pub reply_data : Reply → Data
reply_data reply = fields (reply_fields reply)

-- ---- faults of records; want of memory has no text of its own here

unfoldable pub fault_fields : RecordFault → Fields
fault_fields BadJson = field text (codes "fault") (codes "bad_json")
fault_fields BadKind = field text (codes "fault") (codes "bad_kind")
fault_fields (MissingField name) = field text (codes "fault") (codes "missing_field") ++ field text (codes "field") (field_name name)
fault_fields (BadField name) = field text (codes "fault") (codes "bad_field") ++ field text (codes "field") (field_name name)
fault_fields (BadPlan code) = field whole (codes "code") code ++ field text (codes "fault") (codes "bad_plan")
fault_fields Memory = []

abbrev pub fault_data : RecordFault → Data
fault_data fault = fields (fault_fields fault)
