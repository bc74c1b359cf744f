-- Worked histories, computed: what is fetched, shown and replied along the way.
use Rattle.hub_model.proofs.Common.{◌≡◌, ℕ, List, [], ◌∷◌, ◌++◌, map, length, Bool, Option, Some, None, true, false, codes, refl, last_minute, Ask, Deviation, Fetch, Accepted, refused, Body, Release, Departure, YardDeparture, Exception, Estimate, Arrival, Delivery, Railway, Place, Stage, Status, stage, leg_index, responsible, place, estimates, eta, late_by, accepted_in, last_receiver, reply_to, view, run, state_after, is_apart}
use Rattle.taf_messages.specs.declared.reply.Reply.TheVariants as reply_is
use Rattle.taf_messages.specs.declared.reply.Why.TheVariants as why
use Rattle.taf_messages.specs.declared.item.ItemBody.TheVariants as item
use Rattle.taf_messages.specs.declared.message.Body.TheVariants as body
use Rattle.taf_messages.specs.declared.record.Stage.TheVariants as stage_is
use Rattle.taf_messages.specs.declared.record.Status.TheVariants as status_is
use Rattle.hub_model.proofs.ExampleWords.{w1, w2, w3, r100, r101, r102, border, send, moved, trip, trip_of, departed, many}
use Rattle.hub_model.proofs.Examples.{unready, offered, answered, delayed}
use Rattle.hub_model.proofs.MoreExamples.{delivered, withdrawn}

-- a wagon that no plan names
unknown : reply_to (state_after []) (Ask r100 w3) ≡ refused None why.UnknownWagon (Some w3) None
unknown = refl

-- planned, released and departed: the lead's and the next railway's items, and the records of both wagons
departed_fetch : reply_to (state_after departed) (Fetch r100 10) ≡ reply_is.Items (
    record { number = 1; body = item.Notice (record { by = r101; no = 1; body = moved w1 360 Departure }) } ∷
    record { number = 2; body = item.Eta w1 900 } ∷ [])
departed_fetch = refl

departed_next : (state_after departed).outbox r102 ≡
    item.Notice (record { by = r100; no = 1; body = body.Plan trip }) ∷ item.Eti w1 0 630 ∷ item.Eti w1 0 660 ∷ []
departed_next = refl

departed_view : map {B = ℕ × Stage} (λ r. (r.wagon, r.stage)) (view (state_after departed)) ≡ (w1, stage_is.Running) ∷ (w2, stage_is.Planned) ∷ []
departed_view = refl

departed_places : map {B = Option Place × Option ℕ} (λ r. (r.place, r.eta)) (view (state_after departed)) ≡ (None, Some 900) ∷ (Some (codes "DE00001"), None) ∷ []
departed_places = refl

departed_states : map {B = Option Railway × Status} (λ r. (r.responsible, r.status)) (view (state_after departed)) ≡ (Some r101, status_is.LoadedOnJourney) ∷ (None, status_is.Loading) ∷ []
departed_states = refl

-- delayed by 45 minutes, said three times
delayed_estimates : estimates ((state_after delayed).journey w1) ≡ record { leg = 0; at = 705 } ∷ record { leg = 1; at = 945 } ∷ []
delayed_estimates = refl

delayed_reuses : run (delayed ++
    send r101 2 (moved w1 420 (Exception 46)) ∷ send r101 1 (moved w1 360 Estimate) ∷ send r101 2 (moved w1 420 (Exception 45)) ∷ [])
    ≡ Accepted 1 ∷ Accepted 2 ∷ Accepted 1 ∷ Accepted 2 ∷ Accepted 2 ∷ Accepted 2 ∷
    refused (Some 2) why.NumberReused None None ∷ refused (Some 1) why.NumberReused None None ∷ Accepted 2 ∷ []
delayed_reuses = refl

delayed_items : length ((state_after (delayed ++ send r101 2 (moved w1 420 (Exception 46)) ∷ send r101 2 (moved w1 420 (Exception 45)) ∷ [])).outbox r100) ≡ 5
delayed_items = refl

delayed_fetch : reply_to (state_after delayed) (Fetch r100 2) ≡ reply_is.Items (
    record { number = 1; body = item.Notice (record { by = r101; no = 1; body = moved w1 360 Departure }) } ∷
    record { number = 2; body = item.Eta w1 900 } ∷ [])
delayed_fetch = refl

delayed_deviation : map {B = ℕ × Bool} (λ r. (r.wagon, r.late)) (many (reply_to (state_after delayed) (Deviation r100 (codes "C-1")))) ≡ (w1, true) ∷ []
delayed_deviation = refl

-- an offer of a wagon that is not in the yard leaves the other where it was
unready_stage : stage ((state_after unready).journey w1) ≡ Some stage_is.InYard
unready_stage = refl

unready_place : place ((state_after unready).journey w1) ≡ Some border
unready_place = refl

-- one wagon is received at interchange, and one refused
offered_responsible : responsible ((state_after offered).journey w1) ≡ Some r101
offered_responsible = refl

answered_legs : leg_index ((state_after answered).journey w1) ≡ 1
answered_legs = refl

answered_refused_legs : leg_index ((state_after answered).journey w2) ≡ 0
answered_refused_legs = refl

answered_stage : stage ((state_after answered).journey w1) ≡ Some stage_is.InYard
answered_stage = refl

answered_place : place ((state_after answered).journey w1) ≡ Some border
answered_place = refl

answered_receiver : last_receiver (accepted_in answered) w1 ≡ Some r102
answered_receiver = refl

answered_kept : last_receiver (accepted_in answered) w2 ≡ Some r101
answered_kept = refl

abbrev again : Body
again = body.Answer (record { at = 670; offerer = r101; offer = 6; received = w1 ∷ []; refused = w2 ∷ []; manager = Some (codes "I300") })

answered_again : reply_to (state_after answered) (send r102 2 again) ≡ refused (Some 2) why.OfferClosed None None
answered_again = refl

answered_fetch : reply_to (state_after answered) (Fetch (codes "I300") 5) ≡
    reply_is.Items (record { number = 1; body = item.Sub (record { at = 670; from = r102; offer = 6; offerer = r101; wagons = w1 ∷ [] }) } ∷ [])
answered_fetch = refl

-- an answer with empty lists counts with the offer's wagons all the same
offer_wagons : is_apart (state_after offered)
    (record { by = r102; no = 1; body = body.Answer (record { at = 670; offerer = r101; offer = 6; received = []; refused = []; manager = None }) })
    (record { by = r101; no = 7; body = moved w1 660 (Exception 5) }) ≡ false
offer_wagons = refl

-- the last moment of the calendar
calendar_eta : eta ((state_after (answered ++ send r102 3 (moved w1 last_minute Estimate) ∷ [])).journey w1) ≡ Some last_minute
calendar_eta = refl

-- a reception at that moment would pass it, and the first received wagon is named
abbrev at_the_end : List ℕ → List ℕ → Body
at_the_end received refused = body.Answer (record { at = last_minute; offerer = r101; offer = 6; received = received; refused = refused; manager = None })

calendar_received : reply_to (state_after offered) (send r102 1 (at_the_end (w1 ∷ w2 ∷ []) [])) ≡ refused (Some 1) why.BeyondCalendar (Some w1) None
calendar_received = refl

calendar_received_one : reply_to (state_after offered) (send r102 1 (at_the_end (w2 ∷ []) (w1 ∷ []))) ≡ refused (Some 1) why.BeyondCalendar (Some w2) None
calendar_received_one = refl

calendar_refused : reply_to (state_after offered) (send r102 1 (at_the_end [] (w1 ∷ w2 ∷ []))) ≡ Accepted 1
calendar_refused = refl

-- a wagon that is late on another plan is no deviation of the plan before
deviation_of_the_next : reply_to (state_after (delivered ++ send r100 6 (body.Plan (record (trip_of (codes "C-2") (w1 ∷ [])) { commit = 100 })) ∷ send r100 7 (moved w1 1000 Release) ∷ [])) (Deviation r100 (codes "C-1")) ≡ reply_is.Many []
deviation_of_the_next = refl

deviation_of_another : map {B = ℕ × Bool} (λ r. (r.wagon, r.late)) (many (reply_to (state_after (delivered ++ send r100 6 (body.Plan (record (trip_of (codes "C-2") (w1 ∷ [])) { commit = 100 })) ∷ send r100 7 (moved w1 1000 Release) ∷ [])) (Deviation r100 (codes "C-2")))) ≡ (w1, true) ∷ []
deviation_of_another = refl

-- estimates that are reported anew
reported_early : late_by ((state_after (departed ++ send r101 2 (moved w1 690 Estimate) ∷ [])).journey w1) ≡ None
reported_early = refl

reported_late : late_by ((state_after (departed ++ send r101 2 (moved w1 691 Estimate) ∷ [])).journey w1) ≡ Some 1
reported_late = refl

-- the end of a journey, and a new one
delivered_ways : run (answered ++ send r102 3 (moved w1 690 (YardDeparture (codes "AT00009"))) ∷ send r102 4 (moved w1 690 (YardDeparture border)) ∷
    send r102 5 (moved w1 900 Arrival) ∷ send r102 6 (moved w1 920 Delivery) ∷
    send r100 4 (body.Plan (trip_of (codes "C-1") (w1 ∷ []))) ∷ send r100 5 (body.Plan (trip_of (codes "C-2") (w2 ∷ []))) ∷ send r100 6 (body.Plan (trip_of (codes "C-2") (w1 ∷ []))) ∷ [])
    ≡ Accepted 1 ∷ Accepted 2 ∷ Accepted 1 ∷ Accepted 2 ∷ Accepted 3 ∷ Accepted 3 ∷ refused (Some 4) why.WrongStage (Some w2) None ∷ Accepted 5 ∷ Accepted 6 ∷ Accepted 1 ∷
    refused (Some 3) why.WrongPlace (Some w1) None ∷ Accepted 4 ∷ Accepted 5 ∷ Accepted 6 ∷
    refused (Some 4) why.ConsignmentTaken None None ∷ refused (Some 5) why.WagonBusy (Some w2) None ∷ Accepted 6 ∷ []
delivered_ways = refl

delivered_status : map {B = ℕ × Status} (λ r. (r.wagon, r.status)) (view (state_after delivered)) ≡ (w1, status_is.Unloading) ∷ (w2, status_is.LoadedOnJourney) ∷ []
delivered_status = refl

planned_anew : stage ((state_after (delivered ++ send r100 6 (body.Plan (trip_of (codes "C-2") (w1 ∷ []))) ∷ [])).journey w1) ≡ Some stage_is.Planned
planned_anew = refl

-- a leg's time by its railway, and a question for an estimate
leg_timed : reply_to (state_after departed) (send r102 1 (body.LegTime w1 1 200)) ≡ Accepted 1
leg_timed = refl

estimate_asked : reply_to (state_after departed) (send r100 3 (body.EtiAsk w1)) ≡ Accepted 3
estimate_asked = refl

estimate_asked_of : (state_after (departed ++ send r100 3 (body.EtiAsk w1) ∷ [])).outbox r101 ≡
    (state_after departed).outbox r101 ++ item.Notice (record { by = r100; no = 3; body = body.EtiAsk w1 }) ∷ []
estimate_asked_of = refl

estimate_asked_third : length ((state_after (departed ++ send r100 3 (body.EtiAsk w1) ∷ [])).outbox r101) ≡ 3
estimate_asked_third = refl

-- an offer that is withdrawn
withdrawn_in_yard : stage ((state_after withdrawn).journey w1) ≡ Some stage_is.InYard
withdrawn_in_yard = refl

withdrawn_place : place ((state_after withdrawn).journey w2) ≡ Some border
withdrawn_place = refl
