-- Worked histories, computed.
use Rattle.hub_model.proofs.Common.{◌≡◌, List, [], ◌∷◌, ◌++◌, length, Some, None, codes, refl, Call, Ack, Accepted, refused, Release, Departure, YardArrival, Exception, Estimate, responsible, eta, reply_to, run, state_after}
use Rattle.taf_messages.specs.declared.reply.Why.TheVariants as why
use Rattle.taf_messages.specs.declared.item.ItemBody.TheVariants as item
use Rattle.taf_messages.specs.declared.message.Body.TheVariants as body
use Rattle.hub_model.proofs.ExampleWords.{w1, w2, r100, r101, r102, border, send, moved, trip, departed}

departed_replies : run departed ≡ Accepted 1 ∷ Accepted 2 ∷ Accepted 1 ∷ []
departed_replies = refl

departed_lead : (state_after departed).outbox r100 ≡ item.Notice (record { by = r101; no = 1; body = moved w1 360 Departure }) ∷ item.Eta w1 900 ∷ []
departed_lead = refl

departed_next : length ((state_after departed).outbox r102) ≡ 3
departed_next = refl

repeats_replies : run (
    send r100 1 (body.Plan trip) ∷ send r101 1 (moved w1 360 Departure) ∷ send r100 2 (moved w1 330 Release) ∷
    send r101 1 (moved w1 360 Departure) ∷ send r101 2 (moved w1 360 Departure) ∷ [])
    ≡ Accepted 1 ∷ refused (Some 1) why.WrongStage (Some w1) None ∷ Accepted 2 ∷ refused (Some 1) why.WrongStage (Some w1) None ∷ Accepted 2 ∷ []
repeats_replies = refl

abbrev exception : Call
exception = send r101 2 (moved w1 420 (Exception 45))

abbrev pub delayed : List Call
delayed = departed ++ exception ∷ exception ∷ exception ∷ []

delayed_replies : run delayed ≡ Accepted 1 ∷ Accepted 2 ∷ Accepted 1 ∷ Accepted 2 ∷ Accepted 2 ∷ Accepted 2 ∷ []
delayed_replies = refl

delayed_lead : (state_after delayed).outbox r100 ≡
    item.Notice (record { by = r101; no = 1; body = moved w1 360 Departure }) ∷ item.Eta w1 900 ∷
    item.Notice (record { by = r101; no = 2; body = moved w1 420 (Exception 45) }) ∷ item.Eta w1 945 ∷ item.AlertBegins w1 15 ∷ []
delayed_lead = refl

reuse_reuse : reply_to (state_after delayed) (send r101 2 (moved w1 420 (Exception 46))) ≡ refused (Some 2) why.NumberReused None None
reuse_reuse = refl

reuse_kind : reply_to (state_after delayed) (send r101 1 (moved w1 360 Estimate)) ≡ refused (Some 1) why.NumberReused None None
reuse_kind = refl

items_ahead : reply_to (state_after delayed) (Ack r100 99) ≡ refused None why.AckAhead None (Some 5)
items_ahead = refl

abbrev pub unready : List Call
unready = departed ++ send r101 2 (moved w1 640 (YardArrival border)) ∷ send r100 3 (moved w2 330 Release) ∷ send r101 3 (moved w2 360 Departure) ∷
    send r101 4 (body.Offer (record { at = 650; train = codes "T-77"; place = border; to = r102; wagons = w1 ∷ w2 ∷ [] })) ∷ []

abbrev pub offered : List Call
offered = unready ++ send r101 5 (moved w2 645 (YardArrival border)) ∷
    send r101 6 (body.Offer (record { at = 650; train = codes "T-77"; place = border; to = r102; wagons = w1 ∷ w2 ∷ [] })) ∷ []

abbrev pub answered : List Call
answered = offered ++
    send r102 1 (body.Answer (record { at = 670; offerer = r101; offer = 6; received = w1 ∷ []; refused = w2 ∷ []; manager = Some (codes "I300") })) ∷ []

answered_replies : run answered ≡ Accepted 1 ∷ Accepted 2 ∷ Accepted 1 ∷ Accepted 2 ∷ Accepted 3 ∷ Accepted 3 ∷
    refused (Some 4) why.WrongStage (Some w2) None ∷ Accepted 5 ∷ Accepted 6 ∷ Accepted 1 ∷ []
answered_replies = refl

answered_received : responsible ((state_after answered).journey w1) ≡ Some r102
answered_received = refl

answered_refused : responsible ((state_after answered).journey w2) ≡ Some r101
answered_refused = refl

answered_eta : eta ((state_after answered).journey w1) ≡ Some 910
answered_eta = refl

answered_eta_2 : eta ((state_after answered).journey w2) ≡ Some 900
answered_eta_2 = refl

answered_manager : (state_after answered).outbox (codes "I300") ≡ item.Sub (record { at = 670; from = r102; offer = 6; offerer = r101; wagons = w1 ∷ [] }) ∷ []
answered_manager = refl

answered_lead : length ((state_after answered).outbox r100) ≡ 8
answered_lead = refl

abbrev reported : List Call
reported = delayed ++ send r101 3 (moved w1 670 Estimate) ∷ send r101 4 (moved w1 660 (Exception 5)) ∷ []

reported_lead : (state_after reported).outbox r100 ≡ (state_after delayed).outbox r100 ++
    item.Eta w1 910 ∷ item.AlertEnds w1 ∷ item.Notice (record { by = r101; no = 4; body = moved w1 660 (Exception 5) }) ∷ item.Eta w1 915 ∷ []
reported_lead = refl

delivered_again : reply_to (state_after answered) (send r100 4 (body.Plan trip)) ≡ refused (Some 4) why.ConsignmentTaken None None
delivered_again = refl
