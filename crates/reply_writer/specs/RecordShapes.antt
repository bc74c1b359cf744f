-- The JSON of a wagon's record (4.2.11): keys in byte order.
use Rattle.std.specs.Prelude.{◌++◌, codes}
use Rattle.serde_json.specs.Data.{Data, boolean}
use Rattle.taf_messages.specs.declared.event.RecordEvent.{RecordEvent}
use Rattle.taf_messages.specs.declared.record.EstimateAt.{EstimateAt}
use Rattle.taf_messages.specs.declared.record.Record.{Record}
use Rattle.taf_messages.specs.Names.{body_name}
use Rattle.taf_messages.specs.Details.{stage_name, status_name, event_kind_name, event_kind_delay, event_kind_leg, event_kind_minutes, event_kind_place, event_kind_received}
use Rattle.reply_writer.specs.Shapes.{at_text, wagon_text, load_text}
use Rattle.json_tokens.specs.Texts.{Fields, field, field_if, fields, whole, text, or_null, list_of, unless_empty}

unfoldable pub event_fields : RecordEvent → Fields
event_fields e =
    field_if at_text (codes "at") e.at ++ field text (codes "by") e.by ++ field_if whole (codes "delay") (event_kind_delay e.what) ++
    field text (codes "kind") (body_name (event_kind_name e.what)) ++ field_if whole (codes "leg") (event_kind_leg e.what) ++
    field_if whole (codes "minutes") (event_kind_minutes e.what) ++ field whole (codes "no") e.no ++ field_if text (codes "place") (event_kind_place e.what) ++
    field_if boolean (codes "received") (event_kind_received e.what)

abbrev pub event_data : RecordEvent → Data
event_data e = fields (event_fields e)

unfoldable pub estimate_fields : EstimateAt → Fields
estimate_fields e = field at_text (codes "at") e.at ++ field whole (codes "leg") e.leg

abbrev pub estimate_data : EstimateAt → Data
estimate_data e = fields (estimate_fields e)

-- a record's first keys, up to `late`, those up to `responsible`, and its others
unfoldable pub first_record_fields : Record → Fields
first_record_fields r =
    field at_text (codes "commit") r.commit ++ field text (codes "consignment") r.consignment ++ field (list_of estimate_data) (codes "estimates") r.estimates ++
    field (or_null at_text) (codes "eta") r.eta ++ field (list_of event_data) (codes "events") r.events ++ field boolean (codes "late") r.late

unfoldable pub middle_record_fields : Record → Fields
middle_record_fields r =
    field text (codes "lead") r.lead ++ field whole (codes "leg") r.leg ++ field load_text (codes "load") r.load ++ field (or_null text) (codes "place") r.place ++
    field (or_null text) (codes "responsible") r.responsible

unfoldable pub last_record_fields : Record → Fields
last_record_fields r =
    field text (codes "stage") (stage_name r.stage) ++ field text (codes "status") (status_name r.status) ++
    field_if (list_of text) (codes "units") (unless_empty r.units) ++ field wagon_text (codes "wagon") r.wagon

abbrev pub record_fields : Record → Fields
record_fields r = first_record_fields r ++ middle_record_fields r ++ last_record_fields r

abbrev pub record_data : Record → Data
record_data r = fields (record_fields r)
