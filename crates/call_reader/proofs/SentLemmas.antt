-- Each call that sends a message keeps the message's limits.
use Rattle.call_reader.proofs.Common.{◌≡◌, ℕ, ◌≤◌, List, [], length, Bool, true, false, Option, Some, None, Result, Ok, Err, All, is_some, ok_or, refl, ap, sym, ◌∙◌, subst, arith, if◌then◌else◌, All-nil, Data, null, boolean, number, string, array, object, get, as_object, IsVehicleNumber, last_minute, is_railway, is_place, is_name, Leg, UnitLoad, Trip, plan_fault, route_fault, IsBetween, IsLeg, IsUnitLoad, IsTrip, IsMovementKind, IsMovement, IsOffer, AreAnswered, IsAnswer, IsRailwayIfThere, IsBody, IsMessage, bytes_eq, texts, may_be_offered, is_sent_by_its_lead, field_name, Field, Kind, BodyName, MovementName, Movement, MovementKind, Release, Departure, YardArrival, YardDeparture, Exception, Estimate, Arrival, Delivery, Message, Body, TrainOffer, TrainAnswer, Call, RecordFault, BadJson, BadField}
use Rattle.call_reader.specs.Values as good
use Rattle.call_reader.specs.Reading.{◌>>=◌, value_or_fault, field_of, value_if_there, optional_field_of, plan_or_fault, plan_made, route_or_fault, listed_units, units_of, plan_of, route_of, movement_kind_of, movement_of, offer_of, answer_of, body_of, message_of, call_of_kind, kind_of, call_of, call_read}
use Rattle.taf_messages.specs.declared.field.Field.TheVariants as field
use Rattle.taf_messages.specs.declared.kind.Kind.TheVariants as kinds
use Rattle.taf_messages.specs.declared.kind.BodyName.TheVariants as names
use Rattle.taf_messages.specs.declared.kind.MovementName.TheVariants as movements
use Rattle.taf_messages.specs.declared.message.Body.TheVariants as body
use Rattle.taf_messages.specs.declared.call.Call.TheVariants as calls
use Rattle.call_reader.proofs.KeptLemmas.{railway_kept, place_kept, name_kept, wagon_kept, moment_kept, number_kept, wagon_list_kept, leg_list_kept, wagons_kept, units_kept, offered_wagons_kept}

-- ---- what a result was read from

abbrev value_or : {A : Type 0} → A → Result A RecordFault → A
value_or a (Ok x) = x
value_or a (Err e) = a

abbrev fine : {A : Type 0} → A → Result A RecordFault
fine x = Ok x

same_ok : {A : Type 0} (x y : A) → fine x ≡ fine y → x ≡ y
same_ok x y e = ap (value_or x) e

abbrev Given : {A B : Type 0} → Result A RecordFault → (A → Result B RecordFault) → B → Type 0
Given {A} r f y = (x : A) × (r ≡ Ok x) × (f x ≡ Ok y)

given : {A B : Type 0} (r : Result A RecordFault) (f : A → Result B RecordFault) (y : B) → (r >>= f) ≡ Ok y → Given r f y
given (Ok x) f y h = (x, refl, h)
given (Err e) f y h = absurd (cc)

was_good : {X : Type 0} (o : Option X) (name : Field) (x : X) → ok_or o (BadField name) ≡ Ok x → o ≡ Some x
was_good None name x h = absurd (cc)
was_good (Some y) name x h = ap Some (same_ok y x h)

was_there : {X : Type 0} (reads : Data → Option X) (name : Field) (o : Option Data) (x : X) → value_or_fault reads name o ≡ Ok x → (d : Data) × (reads d ≡ Some x)
was_there reads name None x h = absurd (cc)
was_there reads name (Some d) x h = (d, was_good (reads d) name x h)

-- what each good value keeps, a field's value keeps
field_kept : {X : Type 0} (reads : Data → Option X) (P : X → Type 0) → ((e : Data) (x : X) → reads e ≡ Some x → P x) → (name : Field) (d : Data) (x : X) → field_of reads name d ≡ Ok x → P x
field_kept reads P h name d x e = let p = was_there reads name (get (field_name name) d) x e in h p.0 x p.1

-- an optional field that was there
was_some : {X : Type 0} (r : Result X RecordFault) (x : X) → (r >>= λ y. Ok (Some y)) ≡ Ok (Some x) → r ≡ Ok x
was_some {X} r x h =
    let p = given r (λ (y : X). Ok (Some y)) (Some x) h in
    p.1 ∙ ap (λ o. ok_or o BadJson) (same_ok (Some p.0) (Some x) p.2)

was_if_there : {X : Type 0} (reads : Data → Option X) (name : Field) (o : Option Data) (x : X) → value_if_there reads name o ≡ Ok (Some x) → (d : Data) × (reads d ≡ Some x)
was_if_there reads name None x h = absurd (cc)
was_if_there reads name (Some null) x h = absurd (cc)
was_if_there reads name (Some (boolean b)) x h = was_there reads name (Some (boolean b)) x (was_some _ x h)
was_if_there reads name (Some (number n)) x h = was_there reads name (Some (number n)) x (was_some _ x h)
was_if_there reads name (Some (string s)) x h = was_there reads name (Some (string s)) x (was_some _ x h)
was_if_there reads name (Some (array ds)) x h = was_there reads name (Some (array ds)) x (was_some _ x h)
was_if_there reads name (Some (object ms)) x h = was_there reads name (Some (object ms)) x (was_some _ x h)

-- ---- fields

abbrev IsRailway : List ℕ → Type 0
IsRailway by = is_railway by ≡ true

railway_field : (name : Field) (d : Data) (by : List ℕ) → field_of good.railway name d ≡ Ok by → IsRailway by
railway_field = field_kept good.railway IsRailway railway_kept

place_field : (d : Data) (place : List ℕ) → field_of good.place field.Place d ≡ Ok place → is_place place ≡ true
place_field = field_kept good.place (λ t. is_place t ≡ true) place_kept field.Place

name_field : (name : Field) (d : Data) (text : List ℕ) → field_of good.consignment name d ≡ Ok text → is_name text ≡ true
name_field = field_kept good.consignment (λ t. is_name t ≡ true) name_kept

wagon_field : (d : Data) (w : ℕ) → field_of good.wagon field.Wagon d ≡ Ok w → IsVehicleNumber w
wagon_field = field_kept good.wagon IsVehicleNumber wagon_kept field.Wagon

moment_field : (name : Field) (d : Data) (m : ℕ) → field_of good.moment name d ≡ Ok m → m ≤ last_minute
moment_field = field_kept good.moment (λ m. m ≤ last_minute) moment_kept

number_field : (low high : ℕ) (name : Field) (d : Data) (n : ℕ) → field_of (good.number low high) name d ≡ Ok n → IsBetween low high n
number_field low high = field_kept (good.number low high) (IsBetween low high) (number_kept low high)

-- ---- movements

movement_kind_kept : (name : MovementName) (d : Data) (what : MovementKind) → movement_kind_of name d ≡ Ok what → IsMovementKind what
unfolding movement_kind_of
movement_kind_kept movements.Release d what h = subst IsMovementKind (same_ok Release what h) tt
movement_kind_kept movements.Departure d what h = subst IsMovementKind (same_ok Departure what h) tt
movement_kind_kept movements.YardArrival d what h =
    let p = given (field_of good.place field.Place d) (λ place. Ok (YardArrival place)) what h in
    subst IsMovementKind (same_ok (YardArrival p.0) what p.2) (place_field d p.0 p.1)
movement_kind_kept movements.YardDeparture d what h =
    let p = given (field_of good.place field.Place d) (λ place. Ok (YardDeparture place)) what h in
    subst IsMovementKind (same_ok (YardDeparture p.0) what p.2) (place_field d p.0 p.1)
movement_kind_kept movements.Exception d what h =
    let p = given (field_of (good.number 0 100_000) field.Delay d) (λ delay. Ok (Exception delay)) what h in
    subst IsMovementKind (same_ok (Exception p.0) what p.2) (number_field 0 100_000 field.Delay d p.0 p.1)
movement_kind_kept movements.Estimate d what h = subst IsMovementKind (same_ok Estimate what h) tt
movement_kind_kept movements.Arrival d what h = subst IsMovementKind (same_ok Arrival what h) tt
movement_kind_kept movements.Delivery d what h = subst IsMovementKind (same_ok Delivery what h) tt

movement_kept : (name : MovementName) (d : Data) (m : Movement) → movement_of name d ≡ Ok m → IsMovement m
unfolding movement_of
movement_kept name d m h =
    let w = given (field_of good.wagon field.Wagon d) _ m h in
    let at = given (field_of good.moment field.At d) _ m w.2 in
    let what = given (movement_kind_of name d) (λ k. Ok (record { wagon = w.0; at = at.0; what = k })) m at.2 in
    let one : IsMovement (record { wagon = w.0; at = at.0; what = what.0 }) = record {
      wagon = wagon_field d w.0 w.1;
      at = moment_field field.At d at.0 at.1;
      what = movement_kind_kept name d what.0 what.1;
    } in
    subst IsMovement (same_ok _ m what.2) one

-- ---- offers and answers

offer_kept : (d : Data) (o : TrainOffer) → offer_of d ≡ Ok o → IsOffer o
unfolding offer_of
offer_kept d o h =
    let at = given (field_of good.moment field.At d) _ o h in
    let train = given (field_of good.train field.Train d) _ o at.2 in
    let place = given (field_of good.place field.Place d) _ o train.2 in
    let to = given (field_of good.railway field.To d) _ o place.2 in
    let wagons = given (field_of good.offered_wagons field.Wagons d) (λ ws. Ok (record { at = at.0; train = train.0; place = place.0; to = to.0; wagons = ws })) o to.2 in
    let listed = field_kept good.offered_wagons (λ ws. All IsVehicleNumber ws × (may_be_offered ws ≡ true)) offered_wagons_kept field.Wagons d wagons.0 wagons.1 in
    let one : IsOffer (record { at = at.0; train = train.0; place = place.0; to = to.0; wagons = wagons.0 }) = record {
      at = moment_field field.At d at.0 at.1;
      train = name_field field.Train d train.0 train.1;
      place = place_field d place.0 place.1;
      to = railway_field field.To d to.0 to.1;
      wagons = listed.0;
      limits = listed.1;
    } in
    subst IsOffer (same_ok _ o wagons.2) one

answered_kept : (name : Field) (d : Data) (ws : List ℕ) → field_of good.wagons name d ≡ Ok ws → AreAnswered ws
answered_kept name d ws h =
    let p = field_kept good.wagons (λ ls. All IsVehicleNumber ls × (length ls ≤ 60)) wagons_kept name d ws h in
    record { wagons = p.0; few = p.1 }

manager_kept : (d : Data) (manager : Option (List ℕ)) → optional_field_of good.railway field.Manager d ≡ Ok manager → IsRailwayIfThere manager
manager_kept d None h = tt
manager_kept d (Some railway) h = let p = was_if_there good.railway field.Manager (get (field_name field.Manager) d) railway h in railway_kept p.0 railway p.1

answer_kept : (d : Data) (a : TrainAnswer) → answer_of d ≡ Ok a → IsAnswer a
unfolding answer_of
answer_kept d a h =
    let at = given (field_of good.moment field.At d) _ a h in
    let offerer = given (field_of good.railway field.Offerer d) _ a at.2 in
    let offer = given (field_of (good.number 1 999_999_999_999) field.Offer d) _ a offerer.2 in
    let received = given (field_of good.wagons field.Received d) _ a offer.2 in
    let refused = given (field_of good.wagons field.Refused d) _ a received.2 in
    let manager = given (optional_field_of good.railway field.Manager d)
    (λ m. Ok (record { at = at.0; offerer = offerer.0; offer = offer.0; received = received.0; refused = refused.0; manager = m })) a refused.2 in
    let one : IsAnswer (record { at = at.0; offerer = offerer.0; offer = offer.0; received = received.0; refused = refused.0; manager = manager.0 }) = record {
      at = moment_field field.At d at.0 at.1;
      offerer = railway_field field.Offerer d offerer.0 offerer.1;
      offer = number_field 1 999_999_999_999 field.Offer d offer.0 offer.1;
      received = answered_kept field.Received d received.0 received.1;
      refused = answered_kept field.Refused d refused.0 refused.1;
      manager = manager_kept d manager.0 manager.1;
    } in
    subst IsAnswer (same_ok _ a manager.2) one

-- ---- plans and routes

plan_was_sound : (t u : Trip) (o : Option ℕ) → plan_or_fault t o ≡ Ok u → (o ≡ None) × (t ≡ u)
plan_was_sound t u None h = (refl, same_ok t u h)
plan_was_sound t u (Some code) h = absurd (cc)

route_was_sound : (ls ms : List Leg) (o : Option ℕ) → route_or_fault ls o ≡ Ok ms → (o ≡ None) × (ls ≡ ms)
route_was_sound ls ms None h = (refl, same_ok ls ms h)
route_was_sound ls ms (Some code) h = absurd (cc)

listed_kept : (d : Data) (o : Option (List UnitLoad)) (us : List UnitLoad) → optional_field_of good.unit_loads field.Units d ≡ Ok o → listed_units o ≡ Ok us → All IsUnitLoad us × (length us ≤ 120)
listed_kept d None us p h = subst (λ (vs : List UnitLoad). All IsUnitLoad vs × (length vs ≤ 120)) (same_ok [] us h) (All-nil IsUnitLoad, omega arith)
listed_kept d (Some vs) us p h =
    let q = was_if_there good.unit_loads field.Units (get (field_name field.Units) d) vs p in
    subst (λ (ws : List UnitLoad). All IsUnitLoad ws × (length ws ≤ 120)) (same_ok vs us h) (units_kept q.0 vs q.1)

units_field : (d : Data) (us : List UnitLoad) → units_of d ≡ Ok us → All IsUnitLoad us × (length us ≤ 120)
units_field d us h = let p = given (optional_field_of good.unit_loads field.Units d) listed_units us h in listed_kept d p.0 us p.1 p.2

plan_kept : (by : List ℕ) (d : Data) (t : Trip) → plan_of by d ≡ Ok t → IsTrip by t
unfolding plan_of
plan_kept by d t h =
    let consignment = given (field_of good.consignment field.Consignment d) _ t h in
    let load = given (field_of good.load field.Load d) _ t consignment.2 in
    let commit = given (field_of good.moment field.Commit d) _ t load.2 in
    let wagons = given (field_of (good.list good.wagon) field.Wagons d) _ t commit.2 in
    let legs = given (field_of (good.list good.leg) field.Legs d) _ t wagons.2 in
    let units = given (units_of d)
    (λ us. plan_made (record { lead = by; consignment = consignment.0; load = load.0; commit = commit.0; wagons = wagons.0; legs = legs.0; units = us })) t legs.2 in
    let made : Trip = record { lead = by; consignment = consignment.0; load = load.0; commit = commit.0; wagons = wagons.0; legs = legs.0; units = units.0 } in
    let sound = plan_was_sound made t (plan_fault made) units.2 in
    let listed = units_field d units.0 units.1 in
    let one : IsTrip by made = record {
      sender = refl;
      consignment = name_field field.Consignment d consignment.0 consignment.1;
      commit = moment_field field.Commit d commit.0 commit.1;
      wagons = field_kept (good.list good.wagon) (All IsVehicleNumber) wagon_list_kept field.Wagons d wagons.0 wagons.1;
      legs = field_kept (good.list good.leg) (All IsLeg) leg_list_kept field.Legs d legs.0 legs.1;
      units = listed.0;
      rules = record { sound = sound.0; few_units = listed.1 };
    } in
    subst (IsTrip by) sound.1 one

route_kept : (d : Data) (ls : List Leg) → route_of d ≡ Ok ls → All IsLeg ls × (route_fault ls ≡ None)
route_kept d ls h =
    let p = given (field_of (good.list good.leg) field.Legs d) (λ ms. route_or_fault ms (route_fault ms)) ls h in
    let sound = route_was_sound p.0 ls (route_fault p.0) p.2 in
    subst (λ (ms : List Leg). All IsLeg ms × (route_fault ms ≡ None)) sound.1 (field_kept (good.list good.leg) (All IsLeg) leg_list_kept field.Legs d p.0 p.1, sound.0)

-- ---- messages

body_kept : (name : BodyName) (by : List ℕ) (d : Data) (b : Body) → body_of name by d ≡ Ok b → IsBody by b
unfolding body_of
body_kept names.Plan by d b h =
    let p = given (plan_of by d) (λ t. Ok (body.Plan t)) b h in
    subst (IsBody by) (same_ok (body.Plan p.0) b p.2) (plan_kept by d p.0 p.1)
body_kept (names.Movement name) by d b h =
    let p = given (movement_of name d) (λ m. Ok (body.Movement m)) b h in
    subst (IsBody by) (same_ok (body.Movement p.0) b p.2) (movement_kept name d p.0 p.1)
body_kept names.EtiAsk by d b h =
    let p = given (field_of good.wagon field.Wagon d) (λ w. Ok (body.EtiAsk w)) b h in
    subst (IsBody by) (same_ok (body.EtiAsk p.0) b p.2) (wagon_field d p.0 p.1)
body_kept names.LegTime by d b h =
    let w = given (field_of good.wagon field.Wagon d) _ b h in
    let leg = given (field_of (good.number 0 7) field.Leg d) _ b w.2 in
    let minutes = given (field_of (good.number 1 100_000) field.Minutes d) (λ m. Ok (body.LegTime w.0 leg.0 m)) b leg.2 in
    subst (IsBody by) (same_ok (body.LegTime w.0 leg.0 minutes.0) b minutes.2)
    (record { wagon = wagon_field d w.0 w.1; leg = number_field 0 7 field.Leg d leg.0 leg.1; minutes = number_field 1 100_000 field.Minutes d minutes.0 minutes.1 })
body_kept names.Offer by d b h =
    let p = given (offer_of d) (λ o. Ok (body.Offer o)) b h in
    subst (IsBody by) (same_ok (body.Offer p.0) b p.2) (offer_kept d p.0 p.1)
body_kept names.Answer by d b h =
    let p = given (answer_of d) (λ a. Ok (body.Answer a)) b h in
    subst (IsBody by) (same_ok (body.Answer p.0) b p.2) (answer_kept d p.0 p.1)
body_kept names.Withdraw by d b h =
    let at = given (field_of good.moment field.At d) _ b h in
    let offer = given (field_of (good.number 1 999_999_999_999) field.Offer d) (λ n. Ok (body.Withdraw at.0 n)) b at.2 in
    subst (IsBody by) (same_ok (body.Withdraw at.0 offer.0) b offer.2)
    (record { at = moment_field field.At d at.0 at.1; offer = number_field 1 999_999_999_999 field.Offer d offer.0 offer.1 })
body_kept names.Reroute by d b h =
    let w = given (field_of good.wagon field.Wagon d) _ b h in
    let route = given (route_of d) (λ r. Ok (body.Reroute w.0 r)) b w.2 in
    let legs = route_kept d route.0 route.1 in
    subst (IsBody by) (same_ok (body.Reroute w.0 route.0) b route.2) (record { wagon = wagon_field d w.0 w.1; legs = legs.0; rules = legs.1 })

-- the lead of a plan that is read is its sender
from_its_lead : (by : List ℕ) (b : Body) → IsBody by b → is_sent_by_its_lead by b ≡ true
from_its_lead by (body.Plan p) h = subst (λ t. bytes_eq t by ≡ true) (sym h.sender) (texts.itself by)
from_its_lead by (body.Movement m) h = refl
from_its_lead by (body.EtiAsk w) h = refl
from_its_lead by (body.LegTime w leg minutes) h = refl
from_its_lead by (body.Offer o) h = refl
from_its_lead by (body.Answer a) h = refl
from_its_lead by (body.Withdraw at offer) h = refl
from_its_lead by (body.Reroute w route) h = refl

pub read_from_its_lead : (name : BodyName) (by : List ℕ) (d : Data) (b : Body) → body_of name by d ≡ Ok b → is_sent_by_its_lead by b ≡ true
read_from_its_lead name by d b h = from_its_lead by b (body_kept name by d b h)

message_kept : (name : BodyName) (d : Data) (m : Message) → message_of name d ≡ Ok m → IsMessage m
unfolding message_of
message_kept name d m h =
    let by = given (field_of good.railway field.From d) _ m h in
    let number = given (field_of (good.number 1 999_999_999_999) field.No d) _ m by.2 in
    let says = given (body_of name by.0 d) (λ b. Ok (record { by = by.0; no = number.0; body = b })) m number.2 in
    let one : IsMessage (record { by = by.0; no = number.0; body = says.0 }) = record {
      sender = railway_field field.From d by.0 by.1;
      number = number_field 1 999_999_999_999 field.No d number.0 number.1;
      says = body_kept name by.0 d says.0 says.1;
    } in
    subst IsMessage (same_ok _ m says.2) one

-- ---- calls

abbrev message_or : Message → Call → Message
message_or m (calls.Send n) = n
message_or m _ = m

kind_kept : (kind : Kind) (d : Data) (m : Message) → call_of_kind kind d ≡ Ok (calls.Send m) → IsMessage m
unfolding call_of_kind
kind_kept (kinds.Send name) d m h =
    let p = given (message_of name d) (λ n. Ok (calls.Send n)) (calls.Send m) h in
    message_kept name d m (p.1 ∙ ap (λ call. fine (message_or p.0 call)) (same_ok (calls.Send p.0) (calls.Send m) p.2))
kind_kept kinds.Ask d m h =
    let by = given (field_of good.railway field.From d) _ (calls.Send m) h in
    let w = given (field_of good.wagon field.Wagon d) (λ w. Ok (calls.Ask by.0 w)) (calls.Send m) by.2 in
    let e = same_ok (calls.Ask by.0 w.0) (calls.Send m) w.2 in absurd (cc)
kind_kept kinds.AskUnit d m h =
    let by = given (field_of good.railway field.From d) _ (calls.Send m) h in
    let u = given (field_of good.unit field.Unit d) (λ u. Ok (calls.AskUnit by.0 u)) (calls.Send m) by.2 in
    let e = same_ok (calls.AskUnit by.0 u.0) (calls.Send m) u.2 in absurd (cc)
kind_kept kinds.Deviation d m h =
    let by = given (field_of good.railway field.From d) _ (calls.Send m) h in
    let c = given (field_of good.consignment field.Consignment d) (λ c. Ok (calls.Deviation by.0 c)) (calls.Send m) by.2 in
    let e = same_ok (calls.Deviation by.0 c.0) (calls.Send m) c.2 in absurd (cc)
kind_kept kinds.Fetch d m h =
    let by = given (field_of good.railway field.From d) _ (calls.Send m) h in
    let n = given (field_of (good.number 1 50) field.Limit d) (λ n. Ok (calls.Fetch by.0 n)) (calls.Send m) by.2 in
    let e = same_ok (calls.Fetch by.0 n.0) (calls.Send m) n.2 in absurd (cc)
kind_kept kinds.Ack d m h =
    let by = given (field_of good.railway field.From d) _ (calls.Send m) h in
    let n = given (field_of (good.number 0 999_999_999_999) field.Item d) (λ n. Ok (calls.Ack by.0 n)) (calls.Send m) by.2 in
    let e = same_ok (calls.Ack by.0 n.0) (calls.Send m) n.2 in absurd (cc)

if_object : (b : Bool) (r : Result Call RecordFault) (call : Call) → (if b then r else Err BadJson) ≡ Ok call → r ≡ Ok call
if_object true r call h = h
if_object false r call h = absurd (cc)

-- a call that sends a message was read from a tree whose message keeps its limits
pub sent_kept : (d : Data) (m : Message) → call_of d ≡ Ok (calls.Send m) → IsMessage m
unfolding call_of
sent_kept d m h =
    let p = given (kind_of d) (λ kind. call_of_kind kind d) (calls.Send m) (if_object (is_some (as_object d)) _ (calls.Send m) h) in
    kind_kept p.0 d m p.2

pub read_kept : (o : Option Data) (m : Message) → call_read o ≡ Ok (calls.Send m) → IsMessage m
read_kept None m h = absurd (cc)
read_kept (Some d) m h = sent_kept d m h
