-- Which railway may send a message (4.2.6, 4.2.7, 4.2.8).
use Rattle.std.specs.Prelude.{◌≡◌, ℕ, true, List, Some, option_map}
use Rattle.taf_messages.specs.Leads.{is_sent_by_its_lead}
use Rattle.hub_model.specs.Common.{Railway, has, Call, Message, Body, MovementKind, Release, Departure, Event, responsible, lead_of, runner_of, asked_by}
use Rattle.taf_messages.specs.declared.message.Body.TheVariants as body
use Rattle.hub_model.specs.HubState.{HubState}
use Rattle.hub_model.specs.Histories.{state_after}
use Rattle.hub_model.specs.AcceptedMessages.{accepts}
use Rattle.hub_model.specs.Consent.{IsResponsible}

-- the railway may report the movement of a wagon with these events: the lead its release, the railway of the first leg its departure, and the responsible railway all else (4.2.7)
abbrev pub MayReport : List Event → MovementKind → Railway → Type 0
MayReport events Release r = lead_of events ≡ Some r
MayReport events Departure r = runner_of events 0 ≡ Some r
MayReport events _ r = responsible events ≡ Some r

-- the railway may send the message: the lead plans, asks for estimates and reroutes, the railway of a leg times it, the responsible railway of each wagon offers it, the railway that was asked answers, and the one that made an offer withdraws it
abbrev pub MaySend : HubState → Railway → Body → Type 0
MaySend s r (body.Plan p) = p.lead ≡ r
MaySend s r (body.Movement m) = MayReport (s.journey m.wagon) m.what r
MaySend s r (body.EtiAsk w) = lead_of (s.journey w) ≡ Some r
MaySend s r (body.LegTime w leg minutes) = runner_of (s.journey w) leg ≡ Some r
MaySend s r (body.Offer o) = (w : ℕ) → has o.wagons w ≡ true → IsResponsible s w r
MaySend s r (body.Answer a) = asked_by (s.offer a.offerer a.offer) ≡ Some r
MaySend s r (body.Withdraw at n) = option_map (λ o. o.by) (s.offer r n) ≡ Some r
MaySend s r (body.Reroute w route) = lead_of (s.journey w) ≡ Some r

-- whatever calls came, each accepted message is of a railway that may send it, where a plan comes from its lead, as every `Message` does
abbrev pub SendersMaySend : Type 0
SendersMaySend = (calls : List Call) (m : Message) → is_sent_by_its_lead m.by m.body ≡ true →
    accepts (state_after calls) m ≡ true → MaySend (state_after calls) m.by m.body
