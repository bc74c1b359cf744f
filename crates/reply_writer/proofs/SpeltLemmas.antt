-- The tree of a message has texts in UTF-8 and numbers below 2^64.
use Rattle.reply_writer.proofs.Common.{◌≡◌, ℕ, Bool, ◌<◌, ◌≤◌, ◌^◌, List, [], ◌∷◌, true, Option, Some, None, All, refl, arith, map, All-head, All-tail, IsUtf8-are_ascii, Data, items_of, IsVehicleNumber, last_minute, is_railway, Load, Loaded, Empty, Leg, UnitLoad, Trip, IsMessageNumber, IsLeg, IsUnitLoad, IsMovementKind, IsTrip, IsBody, IsAnswer, IsMessage, wagon_text, load_text, leg_fields, leg_data, unit_fields, unit_data, first_plan_fields, last_plan_fields, movement_fields, offer_fields, answer_fields, leg_time_fields, body_fields, message_data, fields, MovementKind, Release, Departure, YardArrival, YardDeparture, Exception, Estimate, Arrival, Delivery, Message, Body, TrainAnswer}
use Rattle.taf_messages.specs.declared.message.Body.TheVariants as body
use Rattle.reply_writer.proofs.Utf8Lemmas.{HasTexts, ItemsHaveTexts, utf8-railway, utf8-place, utf8-name, utf8-unit, utf8-wagon, utf8-moment}

numbered : (n : ℕ) → IsMessageNumber n → n < 2 ^ 64
numbered n h = omega (arith, h.most)

all_spelt : {X : Type 0} (shape : X → Data) (P : X → Type 0) → ((x : X) → P x → HasTexts (shape x)) → (xs : List X) → All P xs → ItemsHaveTexts (items_of (map shape xs))
all_spelt shape P h [] all = tt
all_spelt shape P h (x ∷ xs) all = (h x (All-head P x xs all), all_spelt shape P h xs (All-tail P x xs all))

wagons : (ws : List ℕ) → All IsVehicleNumber ws → ItemsHaveTexts (items_of (map wagon_text ws))
wagons ws all = all_spelt wagon_text IsVehicleNumber utf8-wagon ws all

leg : (l : Leg) → IsLeg l → HasTexts (leg_data l)
unfolding leg_fields
leg l h = (refl, omega (arith, h.minutes), (refl, utf8-place l.origin h.origin, (refl, utf8-railway l.ru h.ru, (refl, utf8-place l.target h.target, tt))))

legs : (ls : List Leg) → All IsLeg ls → ItemsHaveTexts (items_of (map leg_data ls))
legs ls all = all_spelt leg_data IsLeg leg ls all

unit : (u : UnitLoad) → IsUnitLoad u → HasTexts (unit_data u)
unfolding unit_fields
unit u h = (refl, utf8-unit u.unit h.unit, (refl, utf8-wagon u.wagon h.wagon, tt))

load : (l : Load) → HasTexts (load_text l)
load Loaded = IsUtf8-are_ascii _ refl
load Empty = IsUtf8-are_ascii _ refl

-- one field more: its name has ASCII letters alone
field : {ascii : Bool} {B C : Type 0} → ascii ≡ true → B → C → (ascii ≡ true) × B × C
field a b c = (a, b, c)

plan : (by : List ℕ) (number : ℕ) (t : Trip) (us : List UnitLoad) → is_railway by ≡ true → number < 2 ^ 64 → IsTrip by (record t { units = us }) → HasTexts (fields (body_fields by number (body.Plan (record t { units = us }))))
unfolding body_fields first_plan_fields last_plan_fields
plan by number t [] p q h =
    field refl (utf8-moment t.commit h.commit) (field refl (utf8-name t.consignment h.consignment) (field refl (utf8-railway by p) (field refl (IsUtf8-are_ascii _ refl)
    (field refl (legs t.legs h.legs) (field refl (load t.load) (field refl q (field refl (wagons t.wagons h.wagons) tt)))))))
plan by number t (u ∷ us) p q h =
    field refl (utf8-moment t.commit h.commit) (field refl (utf8-name t.consignment h.consignment) (field refl (utf8-railway by p) (field refl (IsUtf8-are_ascii _ refl)
    (field refl (legs t.legs h.legs) (field refl (load t.load) (field refl q (field refl (all_spelt unit_data IsUnitLoad unit (u ∷ us) h.units) (field refl (wagons t.wagons h.wagons) tt))))))))

movement : (by : List ℕ) (number w at : ℕ) (what : MovementKind) → is_railway by ≡ true → number < 2 ^ 64 → IsVehicleNumber w → at ≤ last_minute → IsMovementKind what
    → HasTexts (fields (body_fields by number (body.Movement (record { wagon = w; at = at; what = what }))))
unfolding body_fields movement_fields
movement by number w at Release p q v a h = (refl, utf8-moment at a, (refl, utf8-railway by p, (refl, IsUtf8-are_ascii _ refl, (refl, q, (refl, utf8-wagon w v, tt)))))
movement by number w at Departure p q v a h = (refl, utf8-moment at a, (refl, utf8-railway by p, (refl, IsUtf8-are_ascii _ refl, (refl, q, (refl, utf8-wagon w v, tt)))))
movement by number w at (YardArrival place) p q v a h = (refl, utf8-moment at a, (refl, utf8-railway by p, (refl, IsUtf8-are_ascii _ refl, (refl, q, (refl, utf8-place place h, (refl, utf8-wagon w v, tt))))))
movement by number w at (YardDeparture place) p q v a h = (refl, utf8-moment at a, (refl, utf8-railway by p, (refl, IsUtf8-are_ascii _ refl, (refl, q, (refl, utf8-place place h, (refl, utf8-wagon w v, tt))))))
movement by number w at (Exception delay) p q v a h = (refl, utf8-moment at a, (refl, omega (arith, h.most), (refl, utf8-railway by p, (refl, IsUtf8-are_ascii _ refl, (refl, q, (refl, utf8-wagon w v, tt))))))
movement by number w at Estimate p q v a h = (refl, utf8-moment at a, (refl, utf8-railway by p, (refl, IsUtf8-are_ascii _ refl, (refl, q, (refl, utf8-wagon w v, tt)))))
movement by number w at Arrival p q v a h = (refl, utf8-moment at a, (refl, utf8-railway by p, (refl, IsUtf8-are_ascii _ refl, (refl, q, (refl, utf8-wagon w v, tt)))))
movement by number w at Delivery p q v a h = (refl, utf8-moment at a, (refl, utf8-railway by p, (refl, IsUtf8-are_ascii _ refl, (refl, q, (refl, utf8-wagon w v, tt)))))

answer : (by : List ℕ) (number : ℕ) (a : TrainAnswer) (manager : Option (List ℕ)) → is_railway by ≡ true → number < 2 ^ 64 → IsAnswer (record a { manager = manager }) → HasTexts (fields (body_fields by number (body.Answer (record a { manager = manager }))))
unfolding body_fields answer_fields
answer by number a None p q h =
    field refl (utf8-moment a.at h.at) (field refl (utf8-railway by p) (field refl (IsUtf8-are_ascii _ refl) (field refl q (field refl (numbered a.offer h.offer)
    (field refl (utf8-railway a.offerer h.offerer) (field refl (wagons a.received h.received.wagons) (field refl (wagons a.refused h.refused.wagons) tt)))))))
answer by number a (Some manager) p q h =
    field refl (utf8-moment a.at h.at) (field refl (utf8-railway by p) (field refl (IsUtf8-are_ascii _ refl) (field refl (utf8-railway manager h.manager) (field refl q (field refl (numbered a.offer h.offer)
    (field refl (utf8-railway a.offerer h.offerer) (field refl (wagons a.received h.received.wagons) (field refl (wagons a.refused h.refused.wagons) tt))))))))

says : (by : List ℕ) (number : ℕ) (b : Body) → is_railway by ≡ true → number < 2 ^ 64 → IsBody by b → HasTexts (fields (body_fields by number b))
unfolding body_fields offer_fields leg_time_fields
says by number (body.Plan t) p q h = plan by number t t.units p q h
says by number (body.Movement m) p q h = movement by number m.wagon m.at m.what p q h.wagon h.at h.what
says by number (body.EtiAsk w) p q h = (refl, utf8-railway by p, (refl, IsUtf8-are_ascii _ refl, (refl, q, (refl, utf8-wagon w h, tt))))
says by number (body.LegTime w i minutes) p q h =
    (refl, utf8-railway by p, (refl, IsUtf8-are_ascii _ refl, (refl, omega (arith, h.leg.most), (refl, omega (arith, h.minutes.most), (refl, q, (refl, utf8-wagon w h.wagon, tt))))))
says by number (body.Offer o) p q h =
    field refl (utf8-moment o.at h.at) (field refl (utf8-railway by p) (field refl (IsUtf8-are_ascii _ refl) (field refl q
    (field refl (utf8-place o.place h.place) (field refl (utf8-railway o.to h.to) (field refl (utf8-name o.train h.train) (field refl (wagons o.wagons h.wagons) tt)))))))
says by number (body.Answer a) p q h = answer by number a a.manager p q h
says by number (body.Withdraw at offer) p q h =
    (refl, utf8-moment at h.at, (refl, utf8-railway by p, (refl, IsUtf8-are_ascii _ refl, (refl, q, (refl, numbered offer h.offer, tt)))))
says by number (body.Reroute w route) p q h =
    (refl, utf8-railway by p, (refl, IsUtf8-are_ascii _ refl, (refl, legs route h.legs, (refl, q, (refl, utf8-wagon w h.wagon, tt)))))

pub message_spelt : (m : Message) → IsMessage m → HasTexts (message_data m)
message_spelt m h = says m.by m.no m.body h.sender (numbered m.no h.number) h.says
