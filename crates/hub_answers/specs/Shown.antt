-- What a railway is shown of the fleet without a question (4.2.11).
use Rattle.std.specs.Prelude.{◌≡◌, ◌↔◌, ℕ, List, Option, Some, None, filter_map, option_map, if◌then◌else◌}
use Rattle.std.specs.List.{AllByRecursion}
use Rattle.taf_codes.specs.declared.code.Railway.{Railway}
use Rattle.taf_messages.specs.declared.call.Call.TheVariants.{Ask}
use Rattle.taf_messages.specs.declared.reply.Reply.TheVariants.{One}
use Rattle.taf_messages.specs.declared.record.Record.{Record}
use Rattle.journey.specs.declared.event.Event.{Event}
use Rattle.journey.specs.Legs.{legs}
use Rattle.wimo.specs.Records.{record_of, may_see}
use Rattle.hub_model.specs.HubState.{HubState}
use Rattle.hub_model.specs.NeedToKnow.{IsOfTrip}
use Rattle.hub_model.specs.Replies.{reply_to}
use Rattle.hub_answers.specs.declared.shown.ShownWagon.{ShownWagon}

-- the record, beside the legs of its journey as they are now
abbrev pub with_legs : List Event → Record → ShownWagon
with_legs events r = record { wimo = r; legs = legs events }

-- the wagon of these events, with its record and its legs
abbrev pub shown_wagon : List Event → ℕ → Option ShownWagon
shown_wagon events w = option_map (with_legs events) (record_of w events)

-- a wagon as the railway is shown it, if it may see it
abbrev pub shown_of : HubState → Railway → ℕ → Option ShownWagon
shown_of s by w = if may_see (s.journey w) by then shown_wagon (s.journey w) w else None

-- what it is shown of wagons, one after another
abbrev pub shown_to : HubState → Railway → List ℕ → List ShownWagon
shown_to s by wagons = filter_map (shown_of s by) wagons

-- the record that it is shown of a wagon is the one by which its question for the wagon would be answered
abbrev pub ShownIsAsked : Type 0
ShownIsAsked = (s : HubState) (by : Railway) (w : ℕ) (r : Record) →
    (option_map (λ shown. shown.wimo) (shown_of s by w) ≡ Some r) ↔ (reply_to s (Ask by w) ≡ One r)

-- each wagon that a railway is shown is one of whose trip it is
abbrev pub ShownIsForTheTrip : Type 0
ShownIsForTheTrip = (s : HubState) (by : Railway) (wagons : List ℕ) →
    AllByRecursion (λ (shown : ShownWagon). IsOfTrip (s.journey shown.wimo.wagon) by) (shown_to s by wagons)
