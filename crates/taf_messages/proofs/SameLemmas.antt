-- `==` finds exactly the equal messages.
use Rattle.std.proofs.Common.{◌≡◌, true, refl, ap}
use Rattle.std.specs.Prelude.{◌==◌, bytes_eq}
use Rattle.taf_codes.specs.Equality.{IsEquality, texts, numbers, options_equal, both}
use Rattle.trip_plan.specs.Content.{same_wagons}
use Rattle.trip_plan.specs.SameContent.{plans, legs, wagons}
use Rattle.taf_messages.specs.declared.movement.Movement.{Movement}
use Rattle.taf_messages.specs.declared.movement.MovementKind.{MovementKind}
use Rattle.taf_messages.specs.declared.movement.MovementKind.TheVariants.{Release, Departure, YardArrival, YardDeparture, Exception, Estimate, Arrival, Delivery}
use Rattle.taf_messages.specs.declared.message.Message.{Message}
use Rattle.taf_messages.specs.declared.message.Body.{Body}
use Rattle.taf_messages.specs.declared.message.Body.TheVariants as body
use Rattle.taf_messages.specs.declared.message.TrainOffer.{TrainOffer}
use Rattle.taf_messages.specs.declared.message.TrainAnswer.{TrainAnswer}
use Rattle.taf_messages.specs.contracts.movement.MovementKindPartialEq.TheImpl as MovementKindEq
use Rattle.taf_messages.specs.contracts.movement.MovementPartialEq.TheImpl as MovementEq
use Rattle.taf_messages.specs.contracts.message.TrainOfferPartialEq.TheImpl as TrainOfferEq
use Rattle.taf_messages.specs.contracts.message.TrainAnswerPartialEq.TheImpl as TrainAnswerEq
use Rattle.taf_messages.specs.contracts.message.BodyPartialEq.TheImpl as BodyEq
use Rattle.taf_messages.specs.contracts.message.MessagePartialEq.TheImpl as MessageEq
use Rattle.taf_messages.specs.contracts.message.MessageEq.TheImpl.Laws as MessageLaws

pub kind_equal : (a b : MovementKind) → MovementKindEq.ghosts.eq a b ≡ true → a ≡ b
kind_equal Release Release h = refl
kind_equal Departure Departure h = refl
kind_equal (YardArrival place) (YardArrival other) h = ap YardArrival (texts.equal place other h)
kind_equal (YardDeparture place) (YardDeparture other) h = ap YardDeparture (texts.equal place other h)
kind_equal (Exception delay) (Exception other) h = ap Exception (numbers.equal delay other h)
kind_equal Estimate Estimate h = refl
kind_equal Arrival Arrival h = refl
kind_equal Delivery Delivery h = refl
kind_equal _ _ h = cc

pub movement_equal : (a b : Movement) → MovementEq.ghosts.eq a b ≡ true → a ≡ b
movement_equal a b h =
    let one = both (a.wagon == b.wagon) _ h in
    let two = both (a.at == b.at) _ one.1 in
    let wagon = numbers.equal _ _ one.0 in
    let at = numbers.equal _ _ two.0 in
    let what = kind_equal a.what b.what two.1 in
    λ i. record { wagon = wagon i; at = at i; what = what i }

offer_equal : (a b : TrainOffer) → TrainOfferEq.ghosts.eq a b ≡ true → a ≡ b
offer_equal a b h =
    let p1 = both (a.at == b.at) _ h in
    let p2 = both (bytes_eq a.train b.train) _ p1.1 in
    let p3 = both (bytes_eq a.place b.place) _ p2.1 in
    let p4 = both (bytes_eq a.to b.to) _ p3.1 in
    let e1 = numbers.equal _ _ p1.0 in
    let e2 = texts.equal _ _ p2.0 in
    let e3 = texts.equal _ _ p3.0 in
    let e4 = texts.equal _ _ p4.0 in
    let e5 = wagons.equal _ _ p4.1 in
    λ i. record { at = e1 i; train = e2 i; place = e3 i; to = e4 i; wagons = e5 i }

answer_equal : (a b : TrainAnswer) → TrainAnswerEq.ghosts.eq a b ≡ true → a ≡ b
answer_equal a b h =
    let p1 = both (a.at == b.at) _ h in
    let p2 = both (bytes_eq a.offerer b.offerer) _ p1.1 in
    let p3 = both (a.offer == b.offer) _ p2.1 in
    let p4 = both (same_wagons a.received b.received) _ p3.1 in
    let p5 = both (same_wagons a.refused b.refused) _ p4.1 in
    let e1 = numbers.equal _ _ p1.0 in
    let e2 = texts.equal _ _ p2.0 in
    let e3 = numbers.equal _ _ p3.0 in
    let e4 = wagons.equal _ _ p4.0 in
    let e5 = wagons.equal _ _ p5.0 in
    let e6 = options_equal bytes_eq texts.equal a.manager b.manager p5.1 in
    λ i. record { at = e1 i; offerer = e2 i; offer = e3 i; received = e4 i; refused = e5 i; manager = e6 i }

body_equal : (a b : Body) → BodyEq.ghosts.eq a b ≡ true → a ≡ b
body_equal (body.Plan p) (body.Plan q) h = ap body.Plan (plans.equal p q h)
body_equal (body.Movement m) (body.Movement n) h = ap body.Movement (movement_equal m n h)
body_equal (body.EtiAsk w) (body.EtiAsk v) h = let e = numbers.equal w v h in cc
body_equal (body.LegTime w leg minutes) (body.LegTime v other also) h =
    let one = both (w == v) _ h in
    let two = both (leg == other) _ one.1 in
    let e = numbers.equal w v one.0 in
    let f = numbers.equal leg other two.0 in
    let g = numbers.equal minutes also two.1 in cc
body_equal (body.Offer p) (body.Offer q) h = ap body.Offer (offer_equal p q h)
body_equal (body.Answer p) (body.Answer q) h = ap body.Answer (answer_equal p q h)
body_equal (body.Withdraw at k) (body.Withdraw also n) h =
    let one = both (at == also) _ h in
    let e = numbers.equal at also one.0 in
    let f = numbers.equal k n one.1 in cc
body_equal (body.Reroute w route) (body.Reroute v other) h =
    let one = both (w == v) _ h in
    let e = numbers.equal w v one.0 in
    let f = legs.equal route other one.1 in cc
body_equal _ _ h = cc

message_equal : (a b : Message) → MessageEq.ghosts.eq a b ≡ true → a ≡ b
message_equal a b h =
    let one = both (bytes_eq a.by b.by) _ h in
    let two = both (a.no == b.no) _ one.1 in
    let by = texts.equal _ _ one.0 in
    let number = numbers.equal _ _ two.0 in
    let says = body_equal a.body b.body two.1 in
    λ i. record { by = by i; no = number i; body = says i }

pub messages : IsEquality MessageEq.ghosts.eq
messages = record { equal = message_equal; itself = MessageLaws.laws-law.refl }
