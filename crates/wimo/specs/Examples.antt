-- Worked journeys.
use Rattle.std.specs.Prelude.{◌≡◌, ℕ, List, [], ◌∷◌, ◌++◌, map, Option, Some, None, true, false, codes, refl}
use Rattle.trip_plan.specs.declared.parts.Leg.{Leg}
use Rattle.trip_plan.specs.declared.parts.Load.TheVariants.{Loaded}
use Rattle.trip_plan.specs.Trip.{Trip}
use Rattle.taf_messages.specs.declared.event.RecordEventKind.TheVariants as shown_as
use Rattle.taf_messages.specs.declared.movement.MovementKind.{MovementKind}
use Rattle.taf_messages.specs.declared.movement.MovementKind.TheVariants.{Release, Departure, YardArrival, Exception, Estimate}
use Rattle.taf_messages.specs.declared.record.Stage.TheVariants as stage_is
use Rattle.journey.specs.declared.event.Event.{Event}
use Rattle.journey.specs.declared.event.EventBody.{EventBody}
use Rattle.journey.specs.declared.event.EventBody.TheVariants.{Planned, Moved, Offered, Answered, Rerouted}
use Rattle.journey.specs.Stages.{stage, responsible, leg_index}
use Rattle.journey.specs.Legs.{place, legs}
use Rattle.eti_chain.specs.Estimates.{estimate, eta, late_by}
use Rattle.wimo.specs.Records.{record_events, may_see}

abbrev leg : List ℕ → List ℕ → List ℕ → ℕ → Leg
leg ru origin target minutes = record { ru = ru; origin = origin; target = target; minutes = minutes }

-- minute 0 stands for 2025-03-01T00:00Z
abbrev trip : Trip
trip = record {
  lead = codes "R100";
  consignment = codes "C-1";
  load = Loaded;
  commit = 930;
  wagons = 218124712173 ∷ 338478961232 ∷ [];
  legs = leg (codes "R101") (codes "DE00001") (codes "AT00002") 300 ∷ leg (codes "R102") (codes "AT00002") (codes "IT00003") 240 ∷ [];
  units = [];
}

abbrev event : List ℕ → ℕ → Option ℕ → EventBody → Event
event by number at body = record { by = by; no = number; at = at; body = body }

abbrev moved : List ℕ → ℕ → ℕ → MovementKind → Event
moved by number at what = event by number (Some at) (Moved what)

-- planned, released at 05:30, and departed at 06:00
abbrev departed : List Event
departed = event (codes "R100") 1 None (Planned trip) ∷ moved (codes "R100") 2 330 Release ∷ moved (codes "R101") 1 360 Departure ∷ []

departed_stage : stage departed ≡ Some stage_is.Running
departed_stage = refl

departed_responsible : responsible departed ≡ Some (codes "R101")
departed_responsible = refl

departed_eta : eta departed ≡ Some 900
departed_eta = refl

-- delayed by 45 minutes
abbrev delayed : List Event
delayed = departed ++ moved (codes "R101") 2 420 (Exception 45) ∷ []

delayed_estimate : estimate delayed 0 ≡ Some 705
delayed_estimate = refl

delayed_late : late_by delayed ≡ Some 15
delayed_late = refl

-- received by the second railway at 11:10
abbrev received : List Event
received = departed ++ moved (codes "R101") 2 640 (YardArrival (codes "AT00002")) ∷
    event (codes "R101") 6 (Some 650) (Offered (codes "AT00002") (codes "R102")) ∷
    event (codes "R102") 1 (Some 670) (Answered (codes "AT00002") true) ∷ []

received_responsible : responsible received ≡ Some (codes "R102")
received_responsible = refl

received_leg : leg_index received ≡ 1
received_leg = refl

received_place : place received ≡ Some (codes "AT00002")
received_place = refl

received_eta : eta received ≡ Some 910
received_eta = refl

-- an estimate of 11:10 puts the delay back
abbrev reported : List Event
reported = delayed ++ moved (codes "R101") 3 670 Estimate ∷ []

reported_eta : eta reported ≡ Some 910
reported_eta = refl

delayed_again : eta (reported ++ moved (codes "R101") 4 660 (Exception 5) ∷ []) ≡ Some 915
delayed_again = refl

-- the second leg ends elsewhere, with another railway
abbrev rerouted : List Event
rerouted = departed ++ event (codes "R100") 3 None (Rerouted (leg (codes "R103") (codes "AT00002") (codes "CH00004") 180 ∷ [])) ∷ []

rerouted_legs : map (λ l. l.ru) (legs rerouted) ≡ codes "R101" ∷ codes "R103" ∷ []
rerouted_legs = refl

rerouted_eta : eta rerouted ≡ Some 840
rerouted_eta = refl

rerouted_events : map (λ e. e.what) (record_events 0 rerouted) ≡ shown_as.Planned ∷ shown_as.Moved Release ∷ shown_as.Moved Departure ∷ shown_as.Rerouted 1 ∷ []
rerouted_events = refl

the_old_railway : may_see rerouted (codes "R102") ≡ false
the_old_railway = refl

the_new_railway : may_see rerouted (codes "R103") ≡ true
the_new_railway = refl
