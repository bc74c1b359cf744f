-- What the refusals of its messages tell an outsider, computed.
use Rattle.hub_model.proofs.Common.{◌≡◌, ℕ, List, [], ◌∷◌, ◌++◌, map, Some, None, codes, refl, Call, Reply, refused, Why, UnknownWagon, UnknownOffer, ConsignmentTaken, WagonBusy, WrongStage, NotYours, NoSuchLeg, Body, Release, Departure, YardArrival, YardDeparture, Exception, Estimate, Arrival, Delivery, reply_to, state_after}
use Rattle.taf_messages.specs.declared.message.Body.TheVariants as body
use Rattle.hub_model.proofs.ExampleWords.{w1, w2, w3, r100, r101, r102, border, send, moved, leg, trip, trip_of, departed}
use Rattle.hub_model.proofs.Examples.{offered, answered}

abbrev outsider : List ℕ
outsider = codes "R999"

-- the reply to its first message
abbrev replied : List Call → Body → Reply
replied calls says = reply_to (state_after calls) (send outsider 1 says)

-- one message of each kind that names a wagon, but for plan, leg time and answer
abbrev tries : List Body
tries =
    moved w1 930 Release ∷ moved w1 930 Departure ∷ moved w1 930 (YardArrival border) ∷ moved w1 930 (YardDeparture border) ∷
    moved w1 930 Arrival ∷ moved w1 930 Delivery ∷ moved w1 930 (Exception 5) ∷ moved w1 930 Estimate ∷ body.EtiAsk w1 ∷
    body.Reroute w1 (leg (codes "R103") border (codes "IT00003") 240 ∷ []) ∷
    body.Offer (record { at = 930; train = codes "T-77"; place = border; to = r102; wagons = w1 ∷ w2 ∷ [] }) ∷ []

abbrev refused_at : Why → Reply
refused_at why = refused (Some 1) why (Some w1) None

-- it may come in the wagon's stage, or may not
abbrev told_yes : Reply
told_yes = refused_at NotYours

abbrev told_no : Reply
told_no = refused_at WrongStage

unknown : map (replied []) tries ≡ map (λ says. refused_at UnknownWagon) tries
unknown = refl

abbrev arrival : List Call
arrival = answered ++ send r102 4 (moved w1 690 (YardDeparture border)) ∷ send r102 5 (moved w1 900 Arrival) ∷ []

planned : map (replied (send r100 1 (body.Plan trip) ∷ [])) tries ≡ told_yes ∷ told_no ∷ told_no ∷ told_no ∷ told_no ∷ told_no ∷ told_no ∷ told_no ∷ told_no ∷ told_yes ∷ told_no ∷ []
planned = refl

released : map (replied (send r100 1 (body.Plan trip) ∷ send r100 2 (moved w1 330 Release) ∷ [])) tries ≡ told_no ∷ told_yes ∷ told_no ∷ told_no ∷ told_no ∷ told_no ∷ told_no ∷ told_no ∷ told_no ∷ told_yes ∷ told_no ∷ []
released = refl

running : map (replied departed) tries ≡ told_no ∷ told_no ∷ told_yes ∷ told_no ∷ told_yes ∷ told_no ∷ told_yes ∷ told_yes ∷ told_yes ∷ told_yes ∷ told_no ∷ []
running = refl

in_yard : map (replied answered) tries ≡ told_no ∷ told_no ∷ told_no ∷ told_yes ∷ told_yes ∷ told_no ∷ told_yes ∷ told_yes ∷ told_yes ∷ told_yes ∷ told_yes ∷ []
in_yard = refl

in_offer : map (replied offered) tries ≡ told_no ∷ told_no ∷ told_no ∷ told_no ∷ told_no ∷ told_no ∷ told_yes ∷ told_yes ∷ told_yes ∷ told_no ∷ told_no ∷ []
in_offer = refl

arrived : map (replied arrival) tries ≡ told_no ∷ told_no ∷ told_no ∷ told_no ∷ told_no ∷ told_yes ∷ told_yes ∷ told_yes ∷ told_yes ∷ told_no ∷ told_no ∷ []
arrived = refl

delivered : map (replied (arrival ++ send r102 6 (moved w1 920 Delivery) ∷ [])) tries ≡ told_no ∷ told_no ∷ told_no ∷ told_no ∷ told_no ∷ told_no ∷ told_no ∷ told_no ∷ told_no ∷ told_no ∷ told_no ∷ []
delivered = refl

-- how many legs there are
legs_told : map (λ i. replied departed (body.LegTime w1 i 200)) (0 ∷ 1 ∷ 2 ∷ []) ≡ told_yes ∷ told_yes ∷ refused_at NoSuchLeg ∷ []
legs_told = refl

abbrev answer : ℕ → Body
answer n = body.Answer (record { at = 670; offerer = r101; offer = n; received = w1 ∷ w2 ∷ []; refused = []; manager = None })

-- which offers there are, open or not
offers_told : map (λ n. replied offered (answer n)) (6 ∷ 7 ∷ []) ≡ refused (Some 1) NotYours None None ∷ refused (Some 1) UnknownOffer None None ∷ []
offers_told = refl

closed_told : replied answered (answer 6) ≡ refused (Some 1) NotYours None None
closed_told = refl

withdrawal_tells : replied offered (body.Withdraw 670 6) ≡ refused (Some 1) UnknownOffer None None
withdrawal_tells = refl

-- which consignments were planned, and which wagons are busy
consignment_told : replied departed (body.Plan (trip_of (codes "C-1") (w3 ∷ []))) ≡ refused (Some 1) ConsignmentTaken None None
consignment_told = refl

busy_told : replied departed (body.Plan (trip_of (codes "C-9") (w3 ∷ w2 ∷ w1 ∷ []))) ≡ refused (Some 1) WagonBusy (Some w2) None
busy_told = refl
