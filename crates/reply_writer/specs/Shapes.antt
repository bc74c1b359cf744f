-- The JSON of values, and of messages as a notice carries them: keys in byte order.
use Rattle.std.specs.Prelude.{ℕ, List, ◌++◌, codes}
use Rattle.serde_json.specs.Data.{Data}
use Rattle.wagon_number.specs.Digits.{text_of}
use Rattle.taf_moment.specs.Calendar.{moment_text}
use Rattle.taf_codes.specs.declared.code.Railway.{Railway}
use Rattle.trip_plan.specs.declared.parts.Load.{Load}
use Rattle.trip_plan.specs.declared.parts.Load.TheVariants.{Loaded, Empty}
use Rattle.trip_plan.specs.declared.parts.Leg.{Leg}
use Rattle.trip_plan.specs.declared.parts.UnitLoad.{UnitLoad}
use Rattle.trip_plan.specs.Trip.{Trip}
use Rattle.taf_messages.specs.declared.movement.Movement.{Movement}
use Rattle.taf_messages.specs.declared.message.Message.{Message}
use Rattle.taf_messages.specs.declared.message.TrainOffer.{TrainOffer}
use Rattle.taf_messages.specs.declared.message.TrainAnswer.{TrainAnswer}
use Rattle.taf_messages.specs.declared.message.Body.{Body}
use Rattle.taf_messages.specs.declared.message.Body.TheVariants as body
use Rattle.taf_messages.specs.declared.kind.BodyName.TheVariants as names
use Rattle.taf_messages.specs.Names.{movement_name, body_name}
use Rattle.taf_messages.specs.Details.{name_of, place_in, delay_in}
use Rattle.json_tokens.specs.Texts.{Fields, field, field_if, fields, whole, text, list_of, unless_empty}

abbrev pub wagon_text : ℕ → Data
wagon_text w = text (text_of w)

abbrev pub at_text : ℕ → Data
at_text m = text (moment_text m)

abbrev pub load_name : Load → List ℕ
load_name Loaded = codes "loaded"
load_name Empty = codes "empty"

abbrev pub load_text : Load → Data
load_text load = text (load_name load)

unfoldable pub leg_fields : Leg → Fields
leg_fields l =
    field whole (codes "minutes") l.minutes ++ field text (codes "origin") l.origin ++ field text (codes "ru") l.ru ++ field text (codes "target") l.target

abbrev pub leg_data : Leg → Data
leg_data l = fields (leg_fields l)

unfoldable pub unit_fields : UnitLoad → Fields
unit_fields u = field text (codes "unit") u.unit ++ field wagon_text (codes "wagon") u.wagon

abbrev pub unit_data : UnitLoad → Data
unit_data u = fields (unit_fields u)

-- ---- a message as its own record; its lead, sender or offerer is its field `from`

-- a plan's first keys, up to `legs`, and its others
unfoldable pub first_plan_fields : Railway → Trip → Fields
first_plan_fields by p =
    field at_text (codes "commit") p.commit ++ field text (codes "consignment") p.consignment ++ field text (codes "from") by ++
    field text (codes "kind") (body_name names.Plan) ++ field (list_of leg_data) (codes "legs") p.legs

unfoldable pub last_plan_fields : ℕ → Trip → Fields
last_plan_fields number p =
    field load_text (codes "load") p.load ++ field whole (codes "no") number ++ field_if (list_of unit_data) (codes "units") (unless_empty p.units) ++
    field (list_of wagon_text) (codes "wagons") p.wagons

abbrev pub plan_fields : Railway → ℕ → Trip → Fields
plan_fields by number p = first_plan_fields by p ++ last_plan_fields number p

unfoldable pub movement_fields : Railway → ℕ → Movement → Fields
movement_fields by number m =
    field at_text (codes "at") m.at ++ field_if whole (codes "delay") (delay_in m.what) ++ field text (codes "from") by ++
    field text (codes "kind") (movement_name (name_of m.what)) ++ field whole (codes "no") number ++ field_if text (codes "place") (place_in m.what) ++
    field wagon_text (codes "wagon") m.wagon

unfoldable pub offer_fields : Railway → ℕ → TrainOffer → Fields
offer_fields by number o =
    field at_text (codes "at") o.at ++ field text (codes "from") by ++ field text (codes "kind") (body_name names.Offer) ++ field whole (codes "no") number ++
    field text (codes "place") o.place ++ field text (codes "to") o.to ++ field text (codes "train") o.train ++ field (list_of wagon_text) (codes "wagons") o.wagons

unfoldable pub answer_fields : Railway → ℕ → TrainAnswer → Fields
answer_fields by number a =
    field at_text (codes "at") a.at ++ field text (codes "from") by ++ field text (codes "kind") (body_name names.Answer) ++
    field_if text (codes "manager") a.manager ++ field whole (codes "no") number ++ field whole (codes "offer") a.offer ++
    field text (codes "offerer") a.offerer ++ field (list_of wagon_text) (codes "received") a.received ++ field (list_of wagon_text) (codes "refused") a.refused

unfoldable pub leg_time_fields : Railway → ℕ → ℕ → ℕ → ℕ → Fields
leg_time_fields by number w leg minutes =
    field text (codes "from") by ++ field text (codes "kind") (body_name names.LegTime) ++ field whole (codes "leg") leg ++
    field whole (codes "minutes") minutes ++ field whole (codes "no") number ++ field wagon_text (codes "wagon") w

unfoldable pub body_fields : Railway → ℕ → Body → Fields
body_fields by number (body.Plan p) = plan_fields by number p
body_fields by number (body.Movement m) = movement_fields by number m
body_fields by number (body.EtiAsk w) =
    field text (codes "from") by ++ field text (codes "kind") (body_name names.EtiAsk) ++ field whole (codes "no") number ++ field wagon_text (codes "wagon") w
body_fields by number (body.LegTime w leg minutes) = leg_time_fields by number w leg minutes
body_fields by number (body.Offer o) = offer_fields by number o
body_fields by number (body.Answer a) = answer_fields by number a
body_fields by number (body.Withdraw at offer) =
    field at_text (codes "at") at ++ field text (codes "from") by ++ field text (codes "kind") (body_name names.Withdraw) ++
    field whole (codes "no") number ++ field whole (codes "offer") offer
body_fields by number (body.Reroute w route) =
    field text (codes "from") by ++ field text (codes "kind") (body_name names.Reroute) ++ field (list_of leg_data) (codes "legs") route ++
    field whole (codes "no") number ++ field wagon_text (codes "wagon") w

abbrev pub message_data : Message → Data
message_data m = fields (body_fields m.by m.no m.body)
