-- The trees that are written have rising keys, and nest seven deep at most.
use Rattle.reply_writer.proofs.Common.{◌≡◌, ℕ, suc, List, [], ◌∷◌, true, Option, Some, None, refl, Data, Leg, UnitLoad, fields, or_null, text, at_text, wagon_text, leg_fields, leg_data, WagonLegs, wagon_legs_fields, wagon_legs_data, fleet_legs_data, unit_fields, unit_data, body_fields, message_data, first_plan_fields, last_plan_fields, movement_fields, offer_fields, answer_fields, leg_time_fields, event_fields, event_data, estimate_fields, estimate_data, first_record_fields, middle_record_fields, last_record_fields, record_data, sub_fields, eti_fields, item_fields, item_data, reply_fields, reply_data, fault_fields, fault_data, Trip, MovementKind, Release, Departure, YardArrival, YardDeparture, Exception, Estimate, Arrival, Delivery, Message, TrainAnswer, Body, RecordEventKind, RecordEvent, Record, EstimateAt, Item, ItemBody, Notice, Sub, Eti, Eta, AlertBegins, AlertEnds, Reply, Why, refused, Accepted, Refused, One, Many, Items, Acknowledged, RecordFault, BadJson, BadKind, MissingField, BadField, BadPlan, Memory, is_ordered, items_are_ordered-map}
use Rattle.taf_messages.specs.declared.message.Body.TheVariants as body
use Rattle.taf_messages.specs.declared.event.RecordEventKind.TheVariants as event_kind

leg_ordered : (n : ℕ) (l : Leg) → is_ordered (leg_data l) (suc n) ≡ true
unfolding leg_fields
leg_ordered n l = refl

unit_ordered : (n : ℕ) (u : UnitLoad) → is_ordered (unit_data u) (suc n) ≡ true
unfolding unit_fields
unit_ordered n u = refl

wagon_ordered : (n : ℕ) (w : ℕ) → is_ordered (wagon_text w) n ≡ true
wagon_ordered n w = refl

text_ordered : (n : ℕ) (s : List ℕ) → is_ordered (text s) n ≡ true
text_ordered n s = refl

or_null_ordered : {X : Type 0} (shape : X → Data) (n : ℕ) → ((x : X) → is_ordered (shape x) n ≡ true) → (o : Option X) → is_ordered (or_null shape o) n ≡ true
or_null_ordered shape n h None = refl
or_null_ordered shape n h (Some x) = h x

-- ---- legs of wagons

pub wagon_legs_ordered : (n : ℕ) (w : WagonLegs) → is_ordered (wagon_legs_data w) (suc (suc (suc n))) ≡ true
unfolding wagon_legs_fields
wagon_legs_ordered n w = rw (items_are_ordered-map leg_data (suc n) (leg_ordered n) w.legs) refl

pub fleet_legs_ordered : (n : ℕ) (ws : List WagonLegs) → is_ordered (fleet_legs_data ws) (suc (suc (suc (suc (suc n))))) ≡ true
fleet_legs_ordered n ws = rw (items_are_ordered-map wagon_legs_data (suc (suc (suc n))) (wagon_legs_ordered n) ws) refl

-- ---- messages

plan_at : (n : ℕ) (by : List ℕ) (number : ℕ) (p : Trip) (us : List UnitLoad) → p.units ≡ us → is_ordered (fields (body_fields by number (body.Plan p))) (suc (suc (suc n))) ≡ true
unfolding body_fields first_plan_fields last_plan_fields unit_fields
plan_at n by number p [] h = rw (h, items_are_ordered-map leg_data (suc n) (leg_ordered n) p.legs, items_are_ordered-map wagon_text (suc n) (wagon_ordered (suc n)) p.wagons) refl
plan_at n by number p (u ∷ us) h =
    rw (h, items_are_ordered-map leg_data (suc n) (leg_ordered n) p.legs, items_are_ordered-map wagon_text (suc n) (wagon_ordered (suc n)) p.wagons, items_are_ordered-map unit_data (suc n) (unit_ordered n) us) refl

movement_at : (n : ℕ) (by : List ℕ) (number w at : ℕ) (what : MovementKind) → is_ordered (fields (body_fields by number (body.Movement (record { wagon = w; at = at; what = what })))) (suc n) ≡ true
unfolding body_fields movement_fields
movement_at n by number w at Release = refl
movement_at n by number w at Departure = refl
movement_at n by number w at (YardArrival place) = refl
movement_at n by number w at (YardDeparture place) = refl
movement_at n by number w at (Exception delay) = refl
movement_at n by number w at Estimate = refl
movement_at n by number w at Arrival = refl
movement_at n by number w at Delivery = refl

answer_at : (n : ℕ) (by : List ℕ) (number : ℕ) (a : TrainAnswer) (manager : Option (List ℕ)) → a.manager ≡ manager → is_ordered (fields (body_fields by number (body.Answer a))) (suc (suc n)) ≡ true
unfolding body_fields answer_fields
answer_at n by number a None h = rw (h, items_are_ordered-map wagon_text n (wagon_ordered n) a.received, items_are_ordered-map wagon_text n (wagon_ordered n) a.refused) refl
answer_at n by number a (Some manager) h = rw (h, items_are_ordered-map wagon_text n (wagon_ordered n) a.received, items_are_ordered-map wagon_text n (wagon_ordered n) a.refused) refl

body_ordered : (n : ℕ) (by : List ℕ) (number : ℕ) (b : Body) → is_ordered (fields (body_fields by number b)) (suc (suc (suc n))) ≡ true
unfolding body_fields offer_fields leg_time_fields
body_ordered n by number (body.Plan p) = plan_at n by number p p.units refl
body_ordered n by number (body.Movement m) = movement_at (suc (suc n)) by number m.wagon m.at m.what
body_ordered n by number (body.EtiAsk w) = refl
body_ordered n by number (body.LegTime w leg minutes) = refl
body_ordered n by number (body.Offer o) = rw (items_are_ordered-map wagon_text (suc n) (wagon_ordered (suc n)) o.wagons) refl
body_ordered n by number (body.Answer a) = answer_at (suc n) by number a a.manager refl
body_ordered n by number (body.Withdraw at offer) = refl
body_ordered n by number (body.Reroute w route) = rw (items_are_ordered-map leg_data (suc n) (leg_ordered n) route) refl

pub message_ordered : (n : ℕ) (m : Message) → is_ordered (message_data m) (suc (suc (suc n))) ≡ true
message_ordered n m = body_ordered n m.by m.no m.body

-- ---- records

event_at : (n : ℕ) (by : List ℕ) (number : ℕ) (at : Option ℕ) (what : RecordEventKind) → is_ordered (event_data (record { by = by; no = number; at = at; what = what })) (suc n) ≡ true
unfolding event_fields
event_at n by number None event_kind.Planned = refl
event_at n by number (Some at) event_kind.Planned = refl
event_at n by number None (event_kind.Moved Release) = refl
event_at n by number (Some at) (event_kind.Moved Release) = refl
event_at n by number None (event_kind.Moved Departure) = refl
event_at n by number (Some at) (event_kind.Moved Departure) = refl
event_at n by number None (event_kind.Moved (YardArrival place)) = refl
event_at n by number (Some at) (event_kind.Moved (YardArrival place)) = refl
event_at n by number None (event_kind.Moved (YardDeparture place)) = refl
event_at n by number (Some at) (event_kind.Moved (YardDeparture place)) = refl
event_at n by number None (event_kind.Moved (Exception delay)) = refl
event_at n by number (Some at) (event_kind.Moved (Exception delay)) = refl
event_at n by number None (event_kind.Moved Estimate) = refl
event_at n by number (Some at) (event_kind.Moved Estimate) = refl
event_at n by number None (event_kind.Moved Arrival) = refl
event_at n by number (Some at) (event_kind.Moved Arrival) = refl
event_at n by number None (event_kind.Moved Delivery) = refl
event_at n by number (Some at) (event_kind.Moved Delivery) = refl
event_at n by number None event_kind.EstimateAsked = refl
event_at n by number (Some at) event_kind.EstimateAsked = refl
event_at n by number None (event_kind.LegTimed leg minutes) = refl
event_at n by number (Some at) (event_kind.LegTimed leg minutes) = refl
event_at n by number None (event_kind.Offered place) = refl
event_at n by number (Some at) (event_kind.Offered place) = refl
event_at n by number None (event_kind.Answered received) = refl
event_at n by number (Some at) (event_kind.Answered received) = refl
event_at n by number None event_kind.Withdrawn = refl
event_at n by number (Some at) event_kind.Withdrawn = refl
event_at n by number None (event_kind.Rerouted leg) = refl
event_at n by number (Some at) (event_kind.Rerouted leg) = refl

event_ordered : (n : ℕ) (e : RecordEvent) → is_ordered (event_data e) (suc n) ≡ true
event_ordered n e = event_at n e.by e.no e.at e.what

estimate_ordered : (n : ℕ) (e : EstimateAt) → is_ordered (estimate_data e) (suc n) ≡ true
unfolding estimate_fields
estimate_ordered n e = refl

record_at : (n : ℕ) (r : Record) (us : List (List ℕ)) → r.units ≡ us → is_ordered (record_data r) (suc (suc (suc n))) ≡ true
unfolding first_record_fields middle_record_fields last_record_fields
record_at n r [] h =
    rw (
      h,
      items_are_ordered-map estimate_data (suc n) (estimate_ordered n) r.estimates,
      items_are_ordered-map event_data (suc n) (event_ordered n) r.events,
      or_null_ordered at_text (suc (suc n)) (wagon_ordered (suc (suc n))) r.eta,
      or_null_ordered text (suc (suc n)) (text_ordered (suc (suc n))) r.place,
      or_null_ordered text (suc (suc n)) (text_ordered (suc (suc n))) r.responsible,
    ) refl
record_at n r (u ∷ us) h =
    rw (
      h,
      items_are_ordered-map estimate_data (suc n) (estimate_ordered n) r.estimates,
      items_are_ordered-map event_data (suc n) (event_ordered n) r.events,
      or_null_ordered at_text (suc (suc n)) (wagon_ordered (suc (suc n))) r.eta,
      or_null_ordered text (suc (suc n)) (text_ordered (suc (suc n))) r.place,
      or_null_ordered text (suc (suc n)) (text_ordered (suc (suc n))) r.responsible,
      items_are_ordered-map text (suc n) (text_ordered (suc n)) us,
    ) refl

pub record_ordered : (n : ℕ) (r : Record) → is_ordered (record_data r) (suc (suc (suc n))) ≡ true
record_ordered n r = record_at n r r.units refl

-- ---- items, replies and faults

item_at : (n number : ℕ) (b : ItemBody) → is_ordered (fields (item_fields number b)) (suc (suc (suc (suc n)))) ≡ true
unfolding item_fields sub_fields eti_fields
item_at n number (Notice m) = rw (message_ordered n m) refl
item_at n number (Sub s) = rw (items_are_ordered-map wagon_text (suc (suc n)) (wagon_ordered (suc (suc n))) s.wagons) refl
item_at n number (Eti w leg at) = refl
item_at n number (Eta w at) = refl
item_at n number (AlertBegins w late_by) = refl
item_at n number (AlertEnds w) = refl

pub item_ordered : (n : ℕ) (i : Item) → is_ordered (item_data i) (suc (suc (suc (suc n)))) ≡ true
item_ordered n i = item_at n i.number i.body

refused_ordered : (n : ℕ) (number : Option ℕ) (why : Why) (wagon last : Option ℕ) →
    is_ordered (reply_data (refused number why wagon last)) (suc (suc (suc (suc (suc (suc n)))))) ≡ true
unfolding reply_fields
refused_ordered n None why None None = refl
refused_ordered n None why None (Some last) = refl
refused_ordered n None why (Some w) None = refl
refused_ordered n None why (Some w) (Some last) = refl
refused_ordered n (Some number) why None None = refl
refused_ordered n (Some number) why None (Some last) = refl
refused_ordered n (Some number) why (Some w) None = refl
refused_ordered n (Some number) why (Some w) (Some last) = refl

pub reply_ordered : (n : ℕ) (r : Reply) → is_ordered (reply_data r) (suc (suc (suc (suc (suc (suc n)))))) ≡ true
unfolding reply_fields
reply_ordered n (Accepted number) = refl
reply_ordered n (Refused r) = refused_ordered n r.no r.why r.wagon r.last
reply_ordered n (One r) = rw (record_ordered (suc (suc n)) r) refl
reply_ordered n (Many rs) = rw (items_are_ordered-map record_data (suc (suc (suc (suc n)))) (record_ordered (suc n)) rs) refl
reply_ordered n (Items is) = rw (items_are_ordered-map item_data (suc (suc (suc (suc n)))) (item_ordered n) is) refl
reply_ordered n (Acknowledged number) = refl

pub fault_ordered : (n : ℕ) (f : RecordFault) → is_ordered (fault_data f) (suc n) ≡ true
unfolding fault_fields
fault_ordered n BadJson = refl
fault_ordered n BadKind = refl
fault_ordered n (MissingField name) = refl
fault_ordered n (BadField name) = refl
fault_ordered n (BadPlan code) = refl
fault_ordered n Memory = refl
