-- What an accepted message makes for the railways (4.2.6, 4.2.7, 4.2.8).
use Rattle.std.specs.Prelude.{ℕ, ◌+◌, ◌==◌, nat_eq, not, ◌||◌, Bool, if◌then◌else◌, List, [], ◌∷◌, ◌++◌, length, map, filter, flat_map, filter_map, drop, Option, Some, None, option_map, option_to_list, bytes_eq}
use Rattle.std.specs.Option.{option_eq}
use Rattle.hub_model.specs.Common.{Railway, same_text, Leg, ItemBody, Message, TrainAnswer, Body, MovementKind, Release, Estimate, EstimateAt, Event, leg_index, responsible, legs, current_leg, runner_of, lead_of, asked_by, estimate, estimates, late_by, is_late}
use Rattle.taf_messages.specs.declared.item.ItemBody.TheVariants as item
use Rattle.taf_messages.specs.declared.message.Body.TheVariants as body
use Rattle.hub_model.specs.declared.addressed_item.AddressedItem.{AddressedItem}
use Rattle.hub_model.specs.HubState.{HubState, named_wagons, journey_after}

-- each railway once, where it comes first
abbrev pub each_once : List Railway → List Railway
each_once [] = []
each_once (r ∷ rs) = r ∷ filter (λ q. not (bytes_eq q r)) (each_once rs)

-- the railways of these legs, in order
abbrev pub runners : List Leg → List Railway
runners ls = map (λ l. l.ru) ls

-- who gets the notice of a movement, given the wagon's events after it: of a release the first railway, of an estimate nobody, else the lead (4.2.7)
abbrev pub movement_receivers : List Event → MovementKind → List Railway
movement_receivers after Release = option_to_list (runner_of after 0)
movement_receivers after Estimate = []
movement_receivers after _ = option_to_list (lead_of after)

-- who gets the notice of new legs, given the events before: the current leg's railway, and those of the legs taken away and set
abbrev pub route_receivers : List Event → List Leg → List Railway
route_receivers before route =
    runners (option_to_list (current_leg before)) ++ runners (drop (leg_index before + 1) (legs before)) ++ runners route

-- who gets the notice of a message, given what each wagon's events are after it
abbrev pub notice_receivers : HubState → (ℕ → List Event) → Railway → Body → List Railway
notice_receivers s after by (body.Plan p) = runners p.legs
notice_receivers s after by (body.Movement m) = movement_receivers (after m.wagon) m.what
notice_receivers s after by (body.EtiAsk w) = option_to_list (responsible (after w))
notice_receivers s after by (body.LegTime w i minutes) = []
notice_receivers s after by (body.Offer o) = o.to ∷ []
notice_receivers s after by (body.Answer a) = a.offerer ∷ filter_map (λ w. lead_of (after w)) (a.received ++ a.refused)
notice_receivers s after by (body.Withdraw at n) = option_to_list (asked_by (s.offer by n))
notice_receivers s after by (body.Reroute w route) = route_receivers (s.journey w) route

-- what the manager gets of an answer that received wagons (4.2.8)
abbrev pub sub_item : Railway → TrainAnswer → Railway → AddressedItem
sub_item by a manager =
    record { to = manager; body = item.Sub (record { at = a.at; from = by; offer = a.offer; offerer = a.offerer; wagons = a.received }) }

-- the item for the manager, where a manager is named and a wagon was received
abbrev pub sub_items : Railway → Body → List AddressedItem
sub_items by (body.Answer a) = if length a.received == 0 then [] else map (sub_item by a) (option_to_list a.manager)
sub_items by _ = []

-- the notices of a message
abbrev pub notices : HubState → Message → List AddressedItem
notices s m =
    map (λ r. record { to = r; body = item.Notice m }) (each_once (notice_receivers s (journey_after s m) m.by m.body)) ++
    sub_items m.by m.body

-- where an estimate goes (4.2.6): to the railway of the next leg, or for the last leg to the lead
abbrev pub estimate_item : List Event → ℕ → EstimateAt → List AddressedItem
estimate_item events w e =
    if e.leg + 1 == length (legs events)
    then map (λ r. record { to = r; body = item.Eta w e.at }) (option_to_list (lead_of events))
    else map (λ r. record { to = r; body = item.Eti w e.leg e.at }) (option_to_list (runner_of events (e.leg + 1)))

-- the estimate is not what it was, or the next leg has another railway, or there was or is no next leg
abbrev pub is_news : List Event → List Event → EstimateAt → Bool
is_news before after e =
    not (option_eq nat_eq (estimate before e.leg) (Some e.at)) ||
    not (same_text (runner_of before (e.leg + 1)) (runner_of after (e.leg + 1)))

-- the items of the estimates that are news
abbrev pub estimate_items : List Event → List Event → ℕ → List AddressedItem
estimate_items before after w = flat_map (estimate_item after w) (filter (is_news before after) (estimates after))

-- an alert begins where the wagon is late and was not, and ends where it was late and is not (4.2.6)
abbrev pub alert : List Event → List Event → ℕ → Option ItemBody
alert before after w =
    if is_late before
    then (if is_late after then None else Some (item.AlertEnds w))
    else option_map (λ minutes. item.AlertBegins w minutes) (late_by after)

-- to the lead, and to the railway that answers for the wagon
abbrev pub alert_receivers : List Event → List Railway
alert_receivers events = each_once (option_to_list (lead_of events) ++ option_to_list (responsible events))

-- the items of an alert
abbrev pub alert_items : List Event → List Event → ℕ → List AddressedItem
alert_items before after w =
    flat_map (λ says. map (λ r. record { to = r; body = says }) (alert_receivers after)) (option_to_list (alert before after w))

-- the items of an accepted message in order; none goes to its own sender
abbrev pub items_of : HubState → Message → List AddressedItem
items_of s m =
    filter (λ i. not (bytes_eq i.to m.by)) (
    notices s m ++
    flat_map (λ w. estimate_items (s.journey w) (journey_after s m w) w) (named_wagons s.offer m) ++
    flat_map (λ w. alert_items (s.journey w) (journey_after s m w) w) (named_wagons s.offer m))

-- what of these goes to a railway
abbrev pub items_to : Railway → List AddressedItem → List ItemBody
items_to r items = map (λ i. i.body) (filter (λ i. bytes_eq i.to r) items)
