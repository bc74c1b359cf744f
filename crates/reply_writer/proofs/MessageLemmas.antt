-- The tree of a message is read as the call that sends it.
use Rattle.reply_writer.proofs.Common.{◌≡◌, ℕ, ◌≤◌, List, [], ◌∷◌, true, Option, Some, None, Result, Ok, Err, is_some, refl, sym, ap, ◌∙◌, if◌then◌else◌, codes, Data, get, as_object, IsVehicleNumber, last_minute, is_railway, Leg, UnitLoad, Trip, IsMessageNumber, IsTrip, IsMovementKind, IsAnswer, IsBody, IsMessage, kind_named, at_text, wagon_text, load_text, leg_data, unit_data, first_plan_fields, last_plan_fields, movement_fields, offer_fields, answer_fields, leg_time_fields, body_fields, message_data, text, whole, list_of, fields, BodyName, MovementName, MovementKind, Release, Departure, YardArrival, YardDeparture, Exception, Estimate, Arrival, Delivery, Message, Body, TrainOffer, TrainAnswer, RecordFault, BadJson}
use Rattle.call_reader.specs.Values as value_of
use Rattle.call_reader.specs.Reading.{◌>>=◌, field_of, optional_field_of, plan_or_fault, route_or_fault, units_of, plan_of, movement_kind_of, movement_of, offer_of, answer_of, body_of, message_of, call_of_kind, kind_of, call_of}
use Rattle.taf_messages.specs.declared.field.Field.TheVariants as field
use Rattle.taf_messages.specs.declared.kind.Kind.TheVariants as kinds
use Rattle.taf_messages.specs.declared.kind.BodyName.TheVariants as names
use Rattle.taf_messages.specs.declared.kind.MovementName.TheVariants as movements
use Rattle.taf_messages.specs.declared.message.Body.TheVariants as body
use Rattle.taf_messages.specs.declared.call.Call.TheVariants as calls
use Rattle.reply_writer.proofs.FieldLemmas.{railway_read, place_read, consignment_read, train_read, wagon_read, moment_read, number_read, load_read, wagon_list_read, leg_list_read, unit_list_read, wagons_read, offered_wagons_read, good_field}

-- what is read after a value that was read
after : {A B : Type 0} (r : Result A RecordFault) (x : A) (f : A → Result B RecordFault) (y : Result B RecordFault) → r ≡ Ok x → f x ≡ y → (r >>= f) ≡ y
after r x f y p q = ap (λ s. s >>= f) p ∙ q

-- ---- every message

-- a tree that has its kind, its sender and its number
record IsSent (d : Data) (name : BodyName) (by : List ℕ) (number : ℕ) : Type 0 where
  object : is_some (as_object d) ≡ true
  kind : kind_of d ≡ Ok (kinds.Send name)
  sender : get (codes "from") d ≡ Some (text by)
  numbered : get (codes "no") d ≡ Some (whole number)
  railway : is_railway by ≡ true
  limits : IsMessageNumber number

sent : (name : BodyName) (d : Data) (by : List ℕ) (number : ℕ) (b : Body) → IsSent d name by number → body_of name by d ≡ Ok b → call_of d ≡ Ok (calls.Send (record { by = by; no = number; body = b }))
unfolding call_of call_of_kind message_of
sent name d by number b h says =
    let p : field_of value_of.railway field.From d ≡ Ok by = good_field value_of.railway field.From d (text by) by h.sender (railway_read by h.railway) in
    let q : field_of (value_of.number 1 999_999_999_999) field.No d ≡ Ok number = good_field (value_of.number 1 999_999_999_999) field.No d (whole number) number h.numbered (number_read 1 999_999_999_999 number h.limits) in
    ap (λ t. if t then (kind_of d >>= λ kind. call_of_kind kind d) else Err BadJson) h.object
    ∙ after _ (kinds.Send name) _ _ h.kind (after _ (record { by = by; no = number; body = b }) _ _ (after _ by _ _ p (after _ number _ _ q (after _ b _ _ says refl))) refl)

abbrev tree : List ℕ → ℕ → Body → Data
tree by number b = fields (body_fields by number b)

abbrev IsReadBack : List ℕ → ℕ → Body → Type 0
IsReadBack by number b = is_railway by ≡ true → IsMessageNumber number → IsBody by b → call_of (tree by number b) ≡ Ok (calls.Send (record { by = by; no = number; body = b }))

wagon_field : (d : Data) (w : ℕ) → get (codes "wagon") d ≡ Some (wagon_text w) → IsVehicleNumber w → field_of value_of.wagon field.Wagon d ≡ Ok w
wagon_field d w p h = good_field value_of.wagon field.Wagon d (wagon_text w) w p (wagon_read w h)

at_field : (d : Data) (m : ℕ) → get (codes "at") d ≡ Some (at_text m) → m ≤ last_minute → field_of value_of.moment field.At d ≡ Ok m
at_field d m p h = good_field value_of.moment field.At d (at_text m) m p (moment_read m h)

-- ---- an estimate that is asked for

eti_ask : (by : List ℕ) (number w : ℕ) → IsReadBack by number (body.EtiAsk w)
unfolding body_fields body_of kind_named
eti_ask by number w p q h =
    let d = tree by number (body.EtiAsk w) in
    sent names.EtiAsk d by number (body.EtiAsk w) (record { object = refl; kind = refl; sender = refl; numbered = refl; railway = p; limits = q })
    (after _ w _ _ (wagon_field d w refl h) refl)

-- ---- movements

abbrev at_wagon : ℕ → ℕ → MovementKind → Body
at_wagon w at what = body.Movement (record { wagon = w; at = at; what = what })

-- a movement's tree beside its kind, sender and number
record IsMoved (d : Data) (w minutes : ℕ) : Type 0 where
  wagon : get (codes "wagon") d ≡ Some (wagon_text w)
  moment : get (codes "at") d ≡ Some (at_text minutes)
  vehicle : IsVehicleNumber w
  limit : minutes ≤ last_minute

moved : (name : MovementName) (d : Data) (by : List ℕ) (number w at : ℕ) (what : MovementKind) → IsSent d (names.Movement name) by number → IsMoved d w at
    → movement_kind_of name d ≡ Ok what → call_of d ≡ Ok (calls.Send (record { by = by; no = number; body = at_wagon w at what }))
unfolding body_of movement_of
moved name d by number w at what h m says =
    sent (names.Movement name) d by number (at_wagon w at what) h
    (after _ (record { wagon = w; at = at; what = what }) _ _
    (after _ w _ _ (wagon_field d w m.wagon m.vehicle) (after _ at _ _ (at_field d at m.moment m.limit) (after _ what _ _ says refl))) refl)

-- with the place or the delay that some kinds have
movement : (by : List ℕ) (number w at : ℕ) (what : MovementKind) → is_railway by ≡ true → IsMessageNumber number → IsVehicleNumber w → at ≤ last_minute → IsMovementKind what
    → call_of (tree by number (at_wagon w at what)) ≡ Ok (calls.Send (record { by = by; no = number; body = at_wagon w at what }))
unfolding body_fields movement_fields movement_kind_of kind_named
movement by number w at Release p q v a h =
    moved movements.Release (tree by number (at_wagon w at Release)) by number w at Release (record { object = refl; kind = refl; sender = refl; numbered = refl; railway = p; limits = q }) (record { wagon = refl; moment = refl; vehicle = v; limit = a }) refl
movement by number w at Departure p q v a h =
    moved movements.Departure (tree by number (at_wagon w at Departure)) by number w at Departure (record { object = refl; kind = refl; sender = refl; numbered = refl; railway = p; limits = q }) (record { wagon = refl; moment = refl; vehicle = v; limit = a }) refl
movement by number w at (YardArrival place) p q v a h =
    let d = tree by number (at_wagon w at (YardArrival place)) in
    moved movements.YardArrival d by number w at (YardArrival place) (record { object = refl; kind = refl; sender = refl; numbered = refl; railway = p; limits = q }) (record { wagon = refl; moment = refl; vehicle = v; limit = a })
    (after _ place _ _ (good_field value_of.place field.Place d (text place) place refl (place_read place h)) refl)
movement by number w at (YardDeparture place) p q v a h =
    let d = tree by number (at_wagon w at (YardDeparture place)) in
    moved movements.YardDeparture d by number w at (YardDeparture place) (record { object = refl; kind = refl; sender = refl; numbered = refl; railway = p; limits = q }) (record { wagon = refl; moment = refl; vehicle = v; limit = a })
    (after _ place _ _ (good_field value_of.place field.Place d (text place) place refl (place_read place h)) refl)
movement by number w at (Exception delay) p q v a h =
    let d = tree by number (at_wagon w at (Exception delay)) in
    moved movements.Exception d by number w at (Exception delay) (record { object = refl; kind = refl; sender = refl; numbered = refl; railway = p; limits = q }) (record { wagon = refl; moment = refl; vehicle = v; limit = a })
    (after _ delay _ _ (good_field (value_of.number 0 100_000) field.Delay d (whole delay) delay refl (number_read 0 100_000 delay h)) refl)
movement by number w at Estimate p q v a h =
    moved movements.Estimate (tree by number (at_wagon w at Estimate)) by number w at Estimate (record { object = refl; kind = refl; sender = refl; numbered = refl; railway = p; limits = q }) (record { wagon = refl; moment = refl; vehicle = v; limit = a }) refl
movement by number w at Arrival p q v a h =
    moved movements.Arrival (tree by number (at_wagon w at Arrival)) by number w at Arrival (record { object = refl; kind = refl; sender = refl; numbered = refl; railway = p; limits = q }) (record { wagon = refl; moment = refl; vehicle = v; limit = a }) refl
movement by number w at Delivery p q v a h =
    moved movements.Delivery (tree by number (at_wagon w at Delivery)) by number w at Delivery (record { object = refl; kind = refl; sender = refl; numbered = refl; railway = p; limits = q }) (record { wagon = refl; moment = refl; vehicle = v; limit = a }) refl

-- ---- the minutes of a leg, an offer that is withdrawn, and new legs

leg_time : (by : List ℕ) (number w leg minutes : ℕ) → IsReadBack by number (body.LegTime w leg minutes)
unfolding body_fields leg_time_fields body_of kind_named
leg_time by number w leg minutes p q h =
    let d = tree by number (body.LegTime w leg minutes) in
    sent names.LegTime d by number (body.LegTime w leg minutes) (record { object = refl; kind = refl; sender = refl; numbered = refl; railway = p; limits = q })
    (after _ w _ _ (wagon_field d w refl h.wagon)
    (after _ leg _ _ (good_field (value_of.number 0 7) field.Leg d (whole leg) leg refl (number_read 0 7 leg h.leg))
    (after _ minutes _ _ (good_field (value_of.number 1 100_000) field.Minutes d (whole minutes) minutes refl (number_read 1 100_000 minutes h.minutes)) refl)))

withdrawal : (by : List ℕ) (number at offer : ℕ) → IsReadBack by number (body.Withdraw at offer)
unfolding body_fields body_of kind_named
withdrawal by number at offer p q h =
    let d = tree by number (body.Withdraw at offer) in
    sent names.Withdraw d by number (body.Withdraw at offer) (record { object = refl; kind = refl; sender = refl; numbered = refl; railway = p; limits = q })
    (after _ at _ _ (at_field d at refl h.at)
    (after _ offer _ _ (good_field (value_of.number 1 999_999_999_999) field.Offer d (whole offer) offer refl (number_read 1 999_999_999_999 offer h.offer)) refl))

reroute : (by : List ℕ) (number w : ℕ) (route : List Leg) → IsReadBack by number (body.Reroute w route)
unfolding body_fields body_of kind_named
reroute by number w route p q h =
    let d = tree by number (body.Reroute w route) in
    sent names.Reroute d by number (body.Reroute w route) (record { object = refl; kind = refl; sender = refl; numbered = refl; railway = p; limits = q })
    (after _ w _ _ (wagon_field d w refl h.wagon)
    (after _ route _ _
    (after _ route _ _ (good_field (value_of.list value_of.leg) field.Legs d (list_of leg_data route) route refl (leg_list_read route h.legs)) (ap (route_or_fault route) h.rules)) refl))

-- ---- offers and answers

offer : (by : List ℕ) (number : ℕ) (o : TrainOffer) → IsReadBack by number (body.Offer o)
unfolding body_fields offer_fields body_of offer_of kind_named
offer by number o p q h =
    let d = tree by number (body.Offer o) in
    sent names.Offer d by number (body.Offer o) (record { object = refl; kind = refl; sender = refl; numbered = refl; railway = p; limits = q })
    (after _ o _ _
    (after _ o.at _ _ (at_field d o.at refl h.at)
    (after _ o.train _ _ (good_field value_of.train field.Train d (text o.train) o.train refl (train_read o.train h.train))
    (after _ o.place _ _ (good_field value_of.place field.Place d (text o.place) o.place refl (place_read o.place h.place))
    (after _ o.to _ _ (good_field value_of.railway field.To d (text o.to) o.to refl (railway_read o.to h.to))
    (after _ o.wagons _ _ (good_field value_of.offered_wagons field.Wagons d (list_of wagon_text o.wagons) o.wagons refl (offered_wagons_read o.wagons h.wagons h.limits)) refl))))) refl)

-- an answer's tree beside its kind, sender, number and manager
record IsAnswered (d : Data) (a : TrainAnswer) : Type 0 where
  moment : get (codes "at") d ≡ Some (at_text a.at)
  offerer : get (codes "offerer") d ≡ Some (text a.offerer)
  offer : get (codes "offer") d ≡ Some (whole a.offer)
  received : get (codes "received") d ≡ Some (list_of wagon_text a.received)
  refused : get (codes "refused") d ≡ Some (list_of wagon_text a.refused)

answered : (d : Data) (a : TrainAnswer) → IsAnswered d a → IsAnswer a → optional_field_of value_of.railway field.Manager d ≡ Ok a.manager → answer_of d ≡ Ok a
unfolding answer_of
answered d a t h manager =
    after _ a.at _ _ (at_field d a.at t.moment h.at)
    (after _ a.offerer _ _ (good_field value_of.railway field.Offerer d (text a.offerer) a.offerer t.offerer (railway_read a.offerer h.offerer))
    (after _ a.offer _ _ (good_field (value_of.number 1 999_999_999_999) field.Offer d (whole a.offer) a.offer t.offer (number_read 1 999_999_999_999 a.offer h.offer))
    (after _ a.received _ _ (good_field value_of.wagons field.Received d (list_of wagon_text a.received) a.received t.received (wagons_read a.received h.received.wagons h.received.few))
    (after _ a.refused _ _ (good_field value_of.wagons field.Refused d (list_of wagon_text a.refused) a.refused t.refused (wagons_read a.refused h.refused.wagons h.refused.few))
    (after _ a.manager _ _ manager refl)))))

answer : (by : List ℕ) (number : ℕ) (a : TrainAnswer) (manager : Option (List ℕ)) → IsReadBack by number (body.Answer (record a { manager = manager }))
unfolding body_fields answer_fields body_of kind_named
answer by number a None p q h =
    let b = record a { manager = None } in
    let d = tree by number (body.Answer b) in
    sent names.Answer d by number (body.Answer b) (record { object = refl; kind = refl; sender = refl; numbered = refl; railway = p; limits = q })
    (after _ b _ _ (answered d b (record { moment = refl; offerer = refl; offer = refl; received = refl; refused = refl }) h refl) refl)
answer by number a (Some manager) p q h =
    let b = record a { manager = Some manager } in
    let d = tree by number (body.Answer b) in
    sent names.Answer d by number (body.Answer b) (record { object = refl; kind = refl; sender = refl; numbered = refl; railway = p; limits = q })
    (after _ b _ _ (answered d b (record { moment = refl; offerer = refl; offer = refl; received = refl; refused = refl }) h
    (after _ manager _ _ (good_field value_of.railway field.Manager d (text manager) manager refl (railway_read manager h.manager)) refl)) refl)

-- ---- plans

-- a plan's tree beside its kind, sender, number and units
record IsPlanned (d : Data) (t : Trip) : Type 0 where
  consignment : get (codes "consignment") d ≡ Some (text t.consignment)
  load : get (codes "load") d ≡ Some (load_text t.load)
  commit : get (codes "commit") d ≡ Some (at_text t.commit)
  wagons : get (codes "wagons") d ≡ Some (list_of wagon_text t.wagons)
  legs : get (codes "legs") d ≡ Some (list_of leg_data t.legs)

planned : (d : Data) (by : List ℕ) (t : Trip) → IsPlanned d t → IsTrip by t → units_of d ≡ Ok t.units → plan_of t.lead d ≡ Ok t
unfolding plan_of
planned d by t is h units =
    after _ t.consignment _ _ (good_field value_of.consignment field.Consignment d (text t.consignment) t.consignment is.consignment (consignment_read t.consignment h.consignment))
    (after _ t.load _ _ (good_field value_of.load field.Load d (load_text t.load) t.load is.load (load_read t.load))
    (after _ t.commit _ _ (good_field value_of.moment field.Commit d (at_text t.commit) t.commit is.commit (moment_read t.commit h.commit))
    (after _ t.wagons _ _ (good_field (value_of.list value_of.wagon) field.Wagons d (list_of wagon_text t.wagons) t.wagons is.wagons (wagon_list_read t.wagons h.wagons))
    (after _ t.legs _ _ (good_field (value_of.list value_of.leg) field.Legs d (list_of leg_data t.legs) t.legs is.legs (leg_list_read t.legs h.legs))
    (after _ t.units _ _ units (ap (plan_or_fault t) h.rules.sound))))))

plan : (by : List ℕ) (number : ℕ) (t : Trip) (us : List UnitLoad) → IsReadBack by number (body.Plan (record t { units = us }))
unfolding body_fields first_plan_fields last_plan_fields body_of kind_named
plan by number t [] p q h =
    let b = record t { units = [] } in
    let d = tree by number (body.Plan b) in
    sent names.Plan d by number (body.Plan b) (record { object = refl; kind = refl; sender = refl; numbered = refl; railway = p; limits = q })
    (after _ b _ _ (ap (λ lead. plan_of lead d) (sym h.sender) ∙ planned d by b (record { consignment = refl; load = refl; commit = refl; wagons = refl; legs = refl }) h refl) refl)
plan by number t (u ∷ us) p q h =
    let b = record t { units = u ∷ us } in
    let d = tree by number (body.Plan b) in
    let units = good_field value_of.unit_loads field.Units d (list_of unit_data (u ∷ us)) (u ∷ us) refl (unit_list_read (u ∷ us) h.units h.rules.few_units) in
    sent names.Plan d by number (body.Plan b) (record { object = refl; kind = refl; sender = refl; numbered = refl; railway = p; limits = q })
    (after _ b _ _ (ap (λ lead. plan_of lead d) (sym h.sender) ∙ planned d by b (record { consignment = refl; load = refl; commit = refl; wagons = refl; legs = refl }) h
    (after _ (Some (u ∷ us)) _ _ (after _ (u ∷ us) _ _ units refl) refl)) refl)

-- ---- all of them

says_back : (by : List ℕ) (number : ℕ) (b : Body) → IsReadBack by number b
says_back by number (body.Plan t) p q h = plan by number t t.units p q h
says_back by number (body.Movement m) p q h = movement by number m.wagon m.at m.what p q h.wagon h.at h.what
says_back by number (body.EtiAsk w) p q h = eti_ask by number w p q h
says_back by number (body.LegTime w leg minutes) p q h = leg_time by number w leg minutes p q h
says_back by number (body.Offer o) p q h = offer by number o p q h
says_back by number (body.Answer a) p q h = answer by number a a.manager p q h
says_back by number (body.Withdraw at number_of_offer) p q h = withdrawal by number at number_of_offer p q h
says_back by number (body.Reroute w route) p q h = reroute by number w route p q h

pub message_read : (m : Message) → IsMessage m → call_of (message_data m) ≡ Ok (calls.Send m)
message_read m h = says_back m.by m.no m.body h.sender h.number h.says
