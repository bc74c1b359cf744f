-- A worked journey of an empty wagon over one leg, computed to its delivery.
use Rattle.hub_model.proofs.Common.{◌≡◌, ℕ, List, [], ◌∷◌, map, Some, None, false, codes, refl, Empty, Trip, Call, Ask, Accepted, refused, Release, Departure, YardArrival, YardDeparture, Exception, Arrival, Delivery, reply_to, run, state_after, accepted_in, last_receiver}
use Rattle.taf_messages.specs.declared.reply.Reply.TheVariants as reply_is
use Rattle.taf_messages.specs.declared.reply.Why.TheVariants as why
use Rattle.taf_messages.specs.declared.event.RecordEventKind.TheVariants as shown_as
use Rattle.taf_messages.specs.declared.message.Body.TheVariants as body
use Rattle.taf_messages.specs.declared.record.Stage.TheVariants as stage_is
use Rattle.taf_messages.specs.declared.record.Status.TheVariants as status_is
use Rattle.hub_model.proofs.ExampleWords.{w1, w2, r101, border, send, moved, leg, departed}

abbrev r200 : List ℕ
r200 = codes "R200"

abbrev r201 : List ℕ
r201 = codes "R201"

abbrev yard : List ℕ
yard = codes "DE00003"

abbrev empty_trip : Trip
empty_trip = record {
  lead = r200;
  consignment = codes "C-2";
  load = Empty;
  commit = 930;
  wagons = w2 ∷ [];
  legs = leg r201 (codes "DE00001") border 300 ∷ [];
  units = [];
}

abbrev whole : List Call
whole =
    send r200 1 (body.Plan empty_trip) ∷
    send r200 2 (moved w2 330 Release) ∷
    send r201 1 (moved w2 360 Departure) ∷
    send r201 2 (moved w2 480 (YardArrival yard)) ∷
    send r201 3 (moved w2 490 (YardDeparture (codes "DE00004"))) ∷
    send r201 4 (moved w2 490 (YardDeparture yard)) ∷
    send r201 5 (moved w2 510 (Exception 45)) ∷
    send r201 6 (moved w2 660 Arrival) ∷
    send r201 7 (moved w2 680 Delivery) ∷
    send r201 8 (moved w2 680 Delivery) ∷ []

whole_replies : run whole ≡ Accepted 1 ∷ Accepted 2 ∷ Accepted 1 ∷ Accepted 2 ∷ refused (Some 3) why.WrongPlace (Some w2) None ∷
    Accepted 4 ∷ Accepted 5 ∷ Accepted 6 ∷ Accepted 7 ∷ refused (Some 8) why.WrongStage (Some w2) None ∷ []
whole_replies = refl

whole_record : reply_to (state_after whole) (Ask r200 w2) ≡ reply_is.One (record {
  wagon = w2;
  lead = r200;
  consignment = codes "C-2";
  load = Empty;
  commit = 930;
  stage = stage_is.Delivered;
  status = status_is.FleetControl;
  leg = 0;
  place = Some border;
  responsible = None;
  estimates = record { leg = 0; at = 680 } ∷ [];
  eta = Some 680;
  late = false;
  events =
      record { by = r200; no = 1; at = None; what = shown_as.Planned } ∷
      record { by = r200; no = 2; at = Some 330; what = shown_as.Moved Release } ∷
      record { by = r201; no = 1; at = Some 360; what = shown_as.Moved Departure } ∷
      record { by = r201; no = 2; at = Some 480; what = shown_as.Moved (YardArrival yard) } ∷
      record { by = r201; no = 4; at = Some 490; what = shown_as.Moved (YardDeparture yard) } ∷
      record { by = r201; no = 5; at = Some 510; what = shown_as.Moved (Exception 45) } ∷
      record { by = r201; no = 6; at = Some 660; what = shown_as.Moved Arrival } ∷
      record { by = r201; no = 7; at = Some 680; what = shown_as.Moved Delivery } ∷ [];
  units = [];
})
whole_record = refl

-- the two refused messages are not among the accepted ones
whole_accepted : map (λ m. m.no) (accepted_in whole) ≡ 1 ∷ 2 ∷ 1 ∷ 2 ∷ 4 ∷ 5 ∷ 6 ∷ 7 ∷ []
whole_accepted = refl

-- the railway that pulled the wagon received it last
whole_receiver : last_receiver (accepted_in whole) w2 ≡ Some r201
whole_receiver = refl

-- an arrival belongs to the last leg
early_arrival : reply_to (state_after departed) (send r101 2 (moved w1 600 Arrival)) ≡ refused (Some 2) why.NotLastLeg (Some w1) None
early_arrival = refl
