-- Worked intermodal units, computed.
use Rattle.hub_model.proofs.Common.{◌≡◌, ℕ, List, [], ◌∷◌, ◌++◌, Some, None, true, false, codes, refl, Loaded, Call, AskUnit, Accepted, refused, Release, Departure, Arrival, Delivery, reply_to, run, state_after, unit_wagon, is_apart, Trip, UnitLoad}
use Rattle.taf_messages.specs.declared.reply.Reply.TheVariants as reply_is
use Rattle.taf_messages.specs.declared.reply.Why.TheVariants as why
use Rattle.taf_messages.specs.declared.event.RecordEventKind.TheVariants as shown_as
use Rattle.taf_messages.specs.declared.message.Body.TheVariants as body
use Rattle.taf_messages.specs.declared.record.Stage.TheVariants as stage_is
use Rattle.taf_messages.specs.declared.record.Status.TheVariants as status_is
use Rattle.hub_model.proofs.ExampleWords.{w1, w2, w3, r100, r102, border, send, moved, leg, trip}

abbrev unit : List ℕ
unit = codes "CSQU3054383"

abbrev on : ℕ → UnitLoad
on w = record { unit = unit; wagon = w }

abbrev with_unit : Trip
with_unit = record trip { units = on w1 ∷ [] }

-- another consignment on another wagon, with the same unit
abbrev other : Trip
other = record {
  lead = codes "R200";
  consignment = codes "C-2";
  load = Loaded;
  commit = 930;
  wagons = w3 ∷ [];
  legs = leg (codes "R201") (codes "DE00001") border 300 ∷ [];
  units = on w3 ∷ [];
}

abbrev planned : List Call
planned = send r100 1 (body.Plan with_unit) ∷ []

planned_reply : run planned ≡ Accepted 1 ∷ []
planned_reply = refl

asked : reply_to (state_after planned) (AskUnit r102 unit) ≡ reply_is.One (record {
  wagon = w1;
  lead = r100;
  consignment = codes "C-1";
  load = Loaded;
  commit = 930;
  stage = stage_is.Planned;
  status = status_is.Loading;
  leg = 0;
  place = Some (codes "DE00001");
  responsible = None;
  estimates = [];
  eta = None;
  late = false;
  events = record { by = r100; no = 1; at = None; what = shown_as.Planned } ∷ [];
  units = unit ∷ [];
})
asked = refl

busy : reply_to (state_after planned) (send (codes "R200") 1 (body.Plan other)) ≡ refused (Some 1) why.UnitBusy (Some w3) None
busy = refl

unknown : reply_to (state_after planned) (AskUnit r100 (codes "AAAU0000060")) ≡ refused None why.UnknownUnit None None
unknown = refl

not_yours : reply_to (state_after planned) (AskUnit (codes "R999") unit) ≡ refused None why.NotYours None None
not_yours = refl

-- once its wagon is delivered, the unit may be loaded on another
abbrev delivered : List Call
delivered = send (codes "R200") 1 (body.Plan other) ∷ send (codes "R200") 2 (moved w3 330 Release) ∷ send (codes "R201") 1 (moved w3 360 Departure) ∷
    send (codes "R201") 2 (moved w3 660 Arrival) ∷ send (codes "R201") 3 (moved w3 680 Delivery) ∷ []

still_there : unit_wagon (state_after delivered) unit ≡ Some w3
still_there = refl

loaded_again : reply_to (state_after delivered) (send r100 1 (body.Plan with_unit)) ≡ Accepted 1
loaded_again = refl

loaded_elsewhere : unit_wagon (state_after (delivered ++ send r100 1 (body.Plan with_unit) ∷ [])) unit ≡ Some w1
loaded_elsewhere = refl

-- and once its wagon is planned anew without it, it is nowhere
nowhere : reply_to (state_after (delivered ++ send (codes "R200") 3 (body.Plan (record other { consignment = codes "C-3"; units = [] })) ∷ [])) (AskUnit (codes "R200") unit) ≡ refused None why.UnknownUnit None None
nowhere = refl

-- a release of the unit's wagon is not apart from a plan that loads the unit, and a release of the other wagon is
not_apart : is_apart (state_after planned) (record { by = r100; no = 2; body = moved w1 330 Release }) (record { by = codes "R200"; no = 1; body = body.Plan other }) ≡ false
not_apart = refl

apart : is_apart (state_after planned) (record { by = r100; no = 2; body = moved w2 330 Release }) (record { by = codes "R200"; no = 1; body = body.Plan other }) ≡ true
apart = refl
