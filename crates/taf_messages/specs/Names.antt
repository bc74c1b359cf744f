-- The names of kinds and fields in records.
use Rattle.std.specs.Prelude.{ℕ, List, [], ◌∷◌, Option, codes, find}
use Rattle.std.specs.Str.{bytes_eq}
use Rattle.taf_messages.specs.declared.field.Field.{Field}
use Rattle.taf_messages.specs.declared.field.Field.TheVariants as fields
use Rattle.taf_messages.specs.declared.kind.Kind.{Kind}
use Rattle.taf_messages.specs.declared.kind.Kind.TheVariants.{Send, Ask, AskUnit, Deviation, Fetch, Ack}
use Rattle.taf_messages.specs.declared.kind.BodyName.{BodyName}
use Rattle.taf_messages.specs.declared.kind.BodyName.TheVariants as bodies
use Rattle.taf_messages.specs.declared.kind.MovementName.{MovementName}
use Rattle.taf_messages.specs.declared.kind.MovementName.TheVariants as movements

-- the notices of wagon movement
abbrev pub movement_name : MovementName → List ℕ
movement_name movements.Release = codes "release"
movement_name movements.Departure = codes "depart"
movement_name movements.YardArrival = codes "yard_in"
movement_name movements.YardDeparture = codes "yard_out"
movement_name movements.Exception = codes "exception"
movement_name movements.Estimate = codes "eti"
movement_name movements.Arrival = codes "arrival"
movement_name movements.Delivery = codes "delivery"

-- the messages
abbrev pub body_name : BodyName → List ℕ
body_name bodies.Plan = codes "plan"
body_name (bodies.Movement movement) = movement_name movement
body_name bodies.EtiAsk = codes "eti_ask"
body_name bodies.LegTime = codes "leg_time"
body_name bodies.Offer = codes "offer"
body_name bodies.Answer = codes "answer"
body_name bodies.Withdraw = codes "withdraw"
body_name bodies.Reroute = codes "reroute"

-- the records
abbrev pub kind_name : Kind → List ℕ
kind_name (Send body) = body_name body
kind_name Ask = codes "ask"
kind_name AskUnit = codes "ask_unit"
kind_name Deviation = codes "deviation"
kind_name Fetch = codes "fetch"
kind_name Ack = codes "ack"

abbrev moved : MovementName → Kind
moved movement = Send (bodies.Movement movement)

-- all kinds there are
abbrev pub kinds : List Kind
kinds =
    moved movements.YardArrival ∷ moved movements.YardDeparture ∷ moved movements.Exception ∷ moved movements.Departure ∷
    moved movements.Release ∷ moved movements.Arrival ∷ moved movements.Delivery ∷ moved movements.Estimate ∷ Ask ∷ Fetch ∷ Ack ∷
    Send bodies.Offer ∷ Send bodies.Answer ∷ Send bodies.Plan ∷ Send bodies.EtiAsk ∷ Deviation ∷ Send bodies.LegTime ∷ Send bodies.Reroute ∷
    AskUnit ∷ Send bodies.Withdraw ∷ []

-- the kind of that name
unfoldable pub kind_named : List ℕ → Option Kind
kind_named name = find (λ kind. bytes_eq (kind_name kind) name) kinds

-- the key of a field
abbrev pub field_name : Field → List ℕ
field_name fields.From = codes "from"
field_name fields.No = codes "no"
field_name fields.Consignment = codes "consignment"
field_name fields.Load = codes "load"
field_name fields.Commit = codes "commit"
field_name fields.Wagons = codes "wagons"
field_name fields.Legs = codes "legs"
field_name fields.Units = codes "units"
field_name fields.Wagon = codes "wagon"
field_name fields.At = codes "at"
field_name fields.Place = codes "place"
field_name fields.Delay = codes "delay"
field_name fields.Leg = codes "leg"
field_name fields.Minutes = codes "minutes"
field_name fields.Train = codes "train"
field_name fields.To = codes "to"
field_name fields.Offerer = codes "offerer"
field_name fields.Offer = codes "offer"
field_name fields.Received = codes "received"
field_name fields.Refused = codes "refused"
field_name fields.Manager = codes "manager"
field_name fields.Limit = codes "limit"
field_name fields.Item = codes "item"
field_name fields.Unit = codes "unit"
field_name fields.Ru = codes "ru"
field_name fields.Origin = codes "origin"
field_name fields.Target = codes "target"
