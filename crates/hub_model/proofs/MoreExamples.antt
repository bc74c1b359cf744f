-- Worked histories, computed: lists, items, late reports and the end of a journey.
use Rattle.hub_model.proofs.Common.{◌≡◌, List, [], ◌∷◌, ◌++◌, map, length, Some, None, true, false, codes, refl, last_minute, Loaded, Call, Ask, Deviation, Fetch, Ack, Accepted, refused, Acknowledged, Release, Departure, YardDeparture, Exception, Estimate, Arrival, Delivery, stage, responsible, place, eta, reply_to, view, run, state_after, is_apart}
use Rattle.taf_messages.specs.declared.reply.Reply.TheVariants as reply_is
use Rattle.taf_messages.specs.declared.reply.Why.TheVariants as why
use Rattle.taf_messages.specs.declared.event.RecordEventKind.TheVariants as shown_as
use Rattle.taf_messages.specs.declared.item.ItemBody.TheVariants as item
use Rattle.taf_messages.specs.declared.message.Body.TheVariants as body
use Rattle.taf_messages.specs.declared.record.Stage.TheVariants as stage_is
use Rattle.taf_messages.specs.declared.record.Status.TheVariants as status_is
use Rattle.hub_model.proofs.ExampleWords.{w1, w2, r100, r101, r102, border, send, moved, trip, trip_of, departed, many}
use Rattle.hub_model.proofs.Examples.{offered, answered, delayed}

abbrev planned : List Call
planned = send r100 1 (body.Plan trip) ∷ []

apart : is_apart (state_after planned) (record { by = r100; no = 2; body = moved w1 330 Release }) (record { by = r100; no = 3; body = moved w2 330 Release }) ≡ true
apart = refl

not_apart : is_apart (state_after planned) (record { by = r100; no = 2; body = moved w1 330 Release }) (record { by = r101; no = 1; body = moved w1 360 Departure }) ≡ false
not_apart = refl

lists_replies : run (offered ++
    send r102 1 (body.Answer (record { at = 670; offerer = r101; offer = 6; received = w1 ∷ w2 ∷ []; refused = w2 ∷ []; manager = None })) ∷
    send r102 2 (body.Answer (record { at = 670; offerer = r101; offer = 6; received = w1 ∷ []; refused = []; manager = None })) ∷
    send r102 3 (body.Answer (record { at = 670; offerer = r101; offer = 6; received = w1 ∷ w2 ∷ []; refused = []; manager = None })) ∷ [])
    ≡ Accepted 1 ∷ Accepted 2 ∷ Accepted 1 ∷ Accepted 2 ∷ Accepted 3 ∷ Accepted 3 ∷ refused (Some 4) why.WrongStage (Some w2) None ∷ Accepted 5 ∷ Accepted 6 ∷
    refused (Some 1) why.ListsDiffer None None ∷ refused (Some 2) why.ListsDiffer None None ∷ Accepted 3 ∷ []
lists_replies = refl

items_fetch : reply_to (state_after (delayed ++ Ack r100 1 ∷ [])) (Fetch r100 2) ≡
    reply_is.Items (record { number = 2; body = item.Eta w1 900 } ∷ record { number = 3; body = item.Notice (record { by = r101; no = 2; body = moved w1 420 (Exception 45) }) } ∷ [])
items_fetch = refl

items_ack : run (delayed ++ Ack r100 1 ∷ Ack r100 99 ∷ Ack r100 0 ∷ []) ≡ Accepted 1 ∷ Accepted 2 ∷ Accepted 1 ∷ Accepted 2 ∷ Accepted 2 ∷ Accepted 2 ∷
    Acknowledged 1 ∷ refused None why.AckAhead None (Some 5) ∷ Acknowledged 1 ∷ []
items_ack = refl

abbrev late_reports : List Call
late_reports = departed ++ send r101 2 (moved w1 690 Estimate) ∷ send r101 3 (moved w1 691 Estimate) ∷ send r101 4 (moved w1 692 Estimate) ∷ []

late_reports_lead : (state_after late_reports).outbox r100 ≡ (state_after departed).outbox r100 ++
    item.Eta w1 930 ∷ item.Eta w1 931 ∷ item.AlertBegins w1 1 ∷ item.Eta w1 932 ∷ []
late_reports_lead = refl

calendar_early : reply_to (state_after departed) (send r101 2 (moved w1 last_minute Estimate)) ≡ refused (Some 2) why.BeyondCalendar (Some w1) None
calendar_early = refl

calendar_late : reply_to (state_after answered) (send r102 3 (moved w1 last_minute Estimate)) ≡ Accepted 3
calendar_late = refl

abbrev pub delivered : List Call
delivered = answered ++ send r102 3 (moved w1 690 (YardDeparture (codes "AT00009"))) ∷ send r102 4 (moved w1 690 (YardDeparture border)) ∷
    send r102 5 (moved w1 900 Arrival) ∷ send r102 6 (moved w1 920 Delivery) ∷ []

delivered_replies : reply_to (state_after answered) (send r102 3 (moved w1 690 (YardDeparture (codes "AT00009")))) ≡ refused (Some 3) why.WrongPlace (Some w1) None
delivered_replies = refl

delivered_stage : stage ((state_after delivered).journey w1) ≡ Some stage_is.Delivered
delivered_stage = refl

delivered_place : place ((state_after delivered).journey w1) ≡ Some (codes "IT00003")
delivered_place = refl

delivered_responsible : responsible ((state_after delivered).journey w1) ≡ None
delivered_responsible = refl

delivered_eta : eta ((state_after delivered).journey w1) ≡ Some 920
delivered_eta = refl

delivered_busy : reply_to (state_after delivered) (send r100 5 (body.Plan (trip_of (codes "C-2") (w2 ∷ [])))) ≡ refused (Some 5) why.WagonBusy (Some w2) None
delivered_busy = refl

delivered_anew : length ((state_after (delivered ++ send r100 6 (body.Plan (trip_of (codes "C-2") (w1 ∷ []))) ∷ [])).journey w1) ≡ 1
delivered_anew = refl

deviation_one : length (many (reply_to (state_after delayed) (Deviation r100 (codes "C-1")))) ≡ 1
deviation_one = refl

deviation_not_yours : reply_to (state_after delayed) (Deviation r101 (codes "C-1")) ≡ refused None why.NotYours None None
deviation_not_yours = refl

deviation_unknown : reply_to (state_after delayed) (Deviation r100 (codes "C-9")) ≡ refused None why.UnknownConsignment None None
deviation_unknown = refl

deviation_ask : reply_to (state_after delayed) (Ask (codes "R999") w1) ≡ refused None why.NotYours (Some w1) None
deviation_ask = refl

leg_time_time : eta ((state_after (departed ++ send r102 1 (body.LegTime w1 1 200) ∷ [])).journey w1) ≡ Some 860
leg_time_time = refl

leg_time_started : reply_to (state_after departed) (send r101 2 (body.LegTime w1 0 200)) ≡ refused (Some 2) why.LegStarted (Some w1) None
leg_time_started = refl

leg_time_none : reply_to (state_after departed) (send r101 3 (body.LegTime w1 5 200)) ≡ refused (Some 3) why.NoSuchLeg (Some w1) None
leg_time_none = refl

abbrev pub withdrawn : List Call
withdrawn = offered ++ send r101 7 (body.Withdraw 660 6) ∷ []

withdrawn_withdrawn : reply_to (state_after offered) (send r101 7 (body.Withdraw 660 6)) ≡ Accepted 7
withdrawn_withdrawn = refl

withdrawn_in_yard : stage ((state_after withdrawn).journey w2) ≡ Some stage_is.InYard
withdrawn_in_yard = refl

withdrawn_closed : reply_to (state_after withdrawn) (send r101 8 (body.Withdraw 660 6)) ≡ refused (Some 8) why.OfferClosed None None
withdrawn_closed = refl

withdrawn_unknown : reply_to (state_after withdrawn) (send r101 9 (body.Withdraw 660 99)) ≡ refused (Some 9) why.UnknownOffer None None
withdrawn_unknown = refl

withdrawn_answer : reply_to (state_after withdrawn) (send r102 1 (body.Answer (record { at = 670; offerer = r101; offer = 6; received = w1 ∷ w2 ∷ []; refused = []; manager = None }))) ≡ refused (Some 1) why.OfferClosed None None
withdrawn_answer = refl

departed_record : reply_to (state_after departed) (Ask r102 w1) ≡ reply_is.One (record {
  wagon = w1;
  lead = r100;
  consignment = codes "C-1";
  load = Loaded;
  commit = 930;
  stage = stage_is.Running;
  status = status_is.LoadedOnJourney;
  leg = 0;
  place = None;
  responsible = Some r101;
  estimates = record { leg = 0; at = 660 } ∷ record { leg = 1; at = 900 } ∷ [];
  eta = Some 900;
  late = false;
  events = record { by = r100; no = 1; at = None; what = shown_as.Planned } ∷ record { by = r100; no = 2; at = Some 330; what = shown_as.Moved Release } ∷ record { by = r101; no = 1; at = Some 360; what = shown_as.Moved Departure } ∷ [];
  units = [];
})
departed_record = refl

delivered_view : map (λ r. r.wagon) (view (state_after delivered)) ≡ w1 ∷ w2 ∷ []
delivered_view = refl
