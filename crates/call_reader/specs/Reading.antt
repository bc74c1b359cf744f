-- The call that a record is, or its first fault.
use Rattle.std.specs.Prelude.{◌≡◌, ℕ, List, [], Option, Some, None, Result, Ok, Err, is_some, codes, option_and_then, ok_or, if◌then◌else◌}
use Rattle.serde_json.specs.Data.{Data}
use Rattle.serde_json.specs.Find.{get, as_str, as_null, as_object}
use Rattle.taf_codes.specs.declared.code.Railway.{Railway}
use Rattle.trip_plan.specs.declared.parts.Leg.{Leg}
use Rattle.trip_plan.specs.declared.parts.UnitLoad.{UnitLoad}
use Rattle.trip_plan.specs.Trip.{Trip, plan_fault, route_fault}
use Rattle.taf_messages.specs.Names.{field_name, kind_named}
use Rattle.call_reader.specs.Values as good
use Rattle.taf_messages.specs.declared.field.Field.{Field}
use Rattle.taf_messages.specs.declared.field.Field.TheVariants as fields
use Rattle.taf_messages.specs.declared.fault.RecordFault.{RecordFault}
use Rattle.taf_messages.specs.declared.fault.RecordFault.TheVariants.{BadJson, BadKind, MissingField, BadField, BadPlan, Memory}
use Rattle.taf_messages.specs.declared.kind.Kind.{Kind}
use Rattle.taf_messages.specs.declared.kind.Kind.TheVariants as kinds
use Rattle.taf_messages.specs.declared.kind.BodyName.{BodyName}
use Rattle.taf_messages.specs.declared.kind.BodyName.TheVariants as names
use Rattle.taf_messages.specs.declared.kind.MovementName.{MovementName}
use Rattle.taf_messages.specs.declared.kind.MovementName.TheVariants as movements
use Rattle.taf_messages.specs.declared.movement.Movement.{Movement}
use Rattle.taf_messages.specs.declared.movement.MovementKind.{MovementKind}
use Rattle.taf_messages.specs.declared.movement.MovementKind.TheVariants.{Release, Departure, YardArrival, YardDeparture, Exception, Estimate, Arrival, Delivery}
use Rattle.taf_messages.specs.declared.message.Body.{Body}
use Rattle.taf_messages.specs.declared.message.Body.TheVariants as bodies
use Rattle.taf_messages.specs.declared.message.TrainOffer.{TrainOffer}
use Rattle.taf_messages.specs.declared.message.TrainAnswer.{TrainAnswer}
use Rattle.taf_messages.specs.declared.message.Message.{Message}
use Rattle.taf_messages.specs.declared.call.Call.{Call}
use Rattle.taf_messages.specs.declared.call.Call.TheVariants as calls

infixl 10 ◌>>=◌
abbrev pub ◌>>=◌ : {A B : Type 0} → Result A RecordFault → (A → Result B RecordFault) → Result B RecordFault
(Ok x) >>= f = f x
(Err e) >>= f = Err e

-- what a function returned is what reading gives, unless memory was refused
abbrev pub Fails : {X : Type 0} → RecordFault → Result X RecordFault → Type 0
Fails Memory read = Unit {0}
Fails BadJson read = read ≡ Err BadJson
Fails BadKind read = read ≡ Err BadKind
Fails (MissingField field) read = read ≡ Err (MissingField field)
Fails (BadField field) read = read ≡ Err (BadField field)
Fails (BadPlan code) read = read ≡ Err (BadPlan code)

abbrev pub Gives : {X : Type 0} → Result X RecordFault → Result X RecordFault → Type 0
Gives (Ok x) read = read ≡ Ok x
Gives (Err e) read = Fails e read

-- ---- fields

abbrev pub value_or_fault : {X : Type 0} → (Data → Option X) → Field → Option Data → Result X RecordFault
value_or_fault good field None = Err (MissingField field)
value_or_fault good field (Some d) = ok_or (good d) (BadField field)

-- a field of a record: absent, not good, or good
abbrev pub field_of : {X : Type 0} → (Data → Option X) → Field → Data → Result X RecordFault
field_of good field d = value_or_fault good field (get (field_name field) d)

abbrev pub value_if_there : {X : Type 0} → (Data → Option X) → Field → Option Data → Result (Option X) RecordFault
value_if_there good field None = Ok None
value_if_there good field (Some d) = if is_some (as_null d) then Ok None else (field_of_value good field d)
  where
    field_of_value : {Y : Type 0} → (Data → Option Y) → Field → Data → Result (Option Y) RecordFault
    field_of_value good field d = value_or_fault good field (Some d) >>= λ x. Ok (Some x)

-- a field that may be absent or null
abbrev pub optional_field_of : {X : Type 0} → (Data → Option X) → Field → Data → Result (Option X) RecordFault
optional_field_of good field d = value_if_there good field (get (field_name field) d)

-- ---- plans and routes

abbrev pub plan_or_fault : Trip → Option ℕ → Result Trip RecordFault
plan_or_fault p None = Ok p
plan_or_fault p (Some code) = Err (BadPlan code)

abbrev pub plan_made : Trip → Result Trip RecordFault
plan_made p = plan_or_fault p (plan_fault p)

abbrev pub route_or_fault : List Leg → Option ℕ → Result (List Leg) RecordFault
route_or_fault legs None = Ok legs
route_or_fault legs (Some code) = Err (BadPlan code)

abbrev pub listed_units : Option (List UnitLoad) → Result (List UnitLoad) RecordFault
listed_units None = Ok []
listed_units (Some units) = Ok units

-- the intermodal units: absent, null and empty are the same
abbrev pub units_of : Data → Result (List UnitLoad) RecordFault
units_of d = optional_field_of good.unit_loads fields.Units d >>= listed_units

unfoldable pub plan_of : Railway → Data → Result Trip RecordFault
plan_of lead d = do
  consignment ← field_of good.consignment fields.Consignment d
  load ← field_of good.load fields.Load d
  commit ← field_of good.moment fields.Commit d
  wagons ← field_of (good.list good.wagon) fields.Wagons d
  legs ← field_of (good.list good.leg) fields.Legs d
  units ← units_of d
  plan_made (record { lead = lead; consignment = consignment; load = load; commit = commit; wagons = wagons; legs = legs; units = units })

abbrev pub route_of : Data → Result (List Leg) RecordFault
route_of d = field_of (good.list good.leg) fields.Legs d >>= λ legs. route_or_fault legs (route_fault legs)

-- ---- movements, offers and answers

unfoldable pub movement_kind_of : MovementName → Data → Result MovementKind RecordFault
movement_kind_of movements.Release d = Ok Release
movement_kind_of movements.Departure d = Ok Departure
movement_kind_of movements.YardArrival d = do
  place ← field_of good.place fields.Place d
  Ok (YardArrival place)
movement_kind_of movements.YardDeparture d = do
  place ← field_of good.place fields.Place d
  Ok (YardDeparture place)
movement_kind_of movements.Exception d = do
  delay ← field_of (good.number 0 100_000) fields.Delay d
  Ok (Exception delay)
movement_kind_of movements.Estimate d = Ok Estimate
movement_kind_of movements.Arrival d = Ok Arrival
movement_kind_of movements.Delivery d = Ok Delivery

unfoldable pub movement_of : MovementName → Data → Result Movement RecordFault
movement_of name d = do
  wagon ← field_of good.wagon fields.Wagon d
  at ← field_of good.moment fields.At d
  what ← movement_kind_of name d
  Ok (record { wagon = wagon; at = at; what = what })

unfoldable pub offer_of : Data → Result TrainOffer RecordFault
offer_of d = do
  at ← field_of good.moment fields.At d
  train ← field_of good.train fields.Train d
  place ← field_of good.place fields.Place d
  to ← field_of good.railway fields.To d
  wagons ← field_of good.offered_wagons fields.Wagons d
  Ok (record { at = at; train = train; place = place; to = to; wagons = wagons })

unfoldable pub answer_of : Data → Result TrainAnswer RecordFault
answer_of d = do
  at ← field_of good.moment fields.At d
  offerer ← field_of good.railway fields.Offerer d
  offer ← field_of (good.number 1 999_999_999_999) fields.Offer d
  received ← field_of good.wagons fields.Received d
  refused ← field_of good.wagons fields.Refused d
  manager ← optional_field_of good.railway fields.Manager d
  Ok (record { at = at; offerer = offerer; offer = offer; received = received; refused = refused; manager = manager })

-- ---- messages and calls

-- what a message of this name and sender says
unfoldable pub body_of : BodyName → Railway → Data → Result Body RecordFault
body_of names.Plan by d = do
  plan ← plan_of by d
  Ok (bodies.Plan plan)
body_of (names.Movement name) by d = do
  movement ← movement_of name d
  Ok (bodies.Movement movement)
body_of names.EtiAsk by d = do
  wagon ← field_of good.wagon fields.Wagon d
  Ok (bodies.EtiAsk wagon)
body_of names.LegTime by d = do
  wagon ← field_of good.wagon fields.Wagon d
  leg ← field_of (good.number 0 7) fields.Leg d
  minutes ← field_of (good.number 1 100_000) fields.Minutes d
  Ok (bodies.LegTime wagon leg minutes)
body_of names.Offer by d = do
  offer ← offer_of d
  Ok (bodies.Offer offer)
body_of names.Answer by d = do
  answer ← answer_of d
  Ok (bodies.Answer answer)
body_of names.Withdraw by d = do
  at ← field_of good.moment fields.At d
  offer ← field_of (good.number 1 999_999_999_999) fields.Offer d
  Ok (bodies.Withdraw at offer)
body_of names.Reroute by d = do
  wagon ← field_of good.wagon fields.Wagon d
  route ← route_of d
  Ok (bodies.Reroute wagon route)

unfoldable pub message_of : BodyName → Data → Result Message RecordFault
message_of name d = do
  by ← field_of good.railway fields.From d
  number ← field_of (good.number 1 999_999_999_999) fields.No d
  body ← body_of name by d
  Ok (record { by = by; no = number; body = body })

unfoldable pub call_of_kind : Kind → Data → Result Call RecordFault
call_of_kind (kinds.Send name) d = do
  message ← message_of name d
  Ok (calls.Send message)
call_of_kind kinds.Ask d = do
  by ← field_of good.railway fields.From d
  wagon ← field_of good.wagon fields.Wagon d
  Ok (calls.Ask by wagon)
call_of_kind kinds.AskUnit d = do
  by ← field_of good.railway fields.From d
  unit ← field_of good.unit fields.Unit d
  Ok (calls.AskUnit by unit)
call_of_kind kinds.Deviation d = do
  by ← field_of good.railway fields.From d
  consignment ← field_of good.consignment fields.Consignment d
  Ok (calls.Deviation by consignment)
call_of_kind kinds.Fetch d = do
  by ← field_of good.railway fields.From d
  limit ← field_of (good.number 1 50) fields.Limit d
  Ok (calls.Fetch by limit)
call_of_kind kinds.Ack d = do
  by ← field_of good.railway fields.From d
  item ← field_of (good.number 0 999_999_999_999) fields.Item d
  Ok (calls.Ack by item)

-- the kind of a record
abbrev pub kind_of : Data → Result Kind RecordFault
kind_of d = ok_or (option_and_then kind_named (option_and_then as_str (get (codes "kind") d))) BadKind

-- an object is read by its kind
unfoldable pub call_of : Data → Result Call RecordFault
call_of d = if is_some (as_object d) then (kind_of d >>= λ kind. call_of_kind kind d) else Err BadJson

-- what the JSON of a line, if it is any, is read as
abbrev pub call_read : Option Data → Result Call RecordFault
call_read None = Err BadJson
call_read (Some d) = call_of d
