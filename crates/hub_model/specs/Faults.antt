-- Why a new message is refused (4.2.7, 4.2.8).
use Rattle.std.specs.Prelude.{ℕ, Bool, true, false, not, ◌&&◌, if◌then◌else◌, List, [], ◌∷◌, ◌++◌, Option, Some, None, is_some, is_none, option_map}
use Rattle.std.specs.Option.{option_or}
use Rattle.hub_model.specs.Common.{Railway, first_of, is_text, UnitLoad, Why, UnknownWagon, UnknownOffer, ConsignmentTaken, WagonBusy, UnitBusy, NotYours, OfferClosed, ListsDiffer, BeyondCalendar, Message, Body, Event, is_delivered, refusal, matches, wagons_of, asked_by, fits, is_calendar_checked}
use Rattle.taf_messages.specs.declared.message.Body.TheVariants as body
use Rattle.hub_model.specs.declared.fault.Fault.{Fault}
use Rattle.hub_model.specs.HubState.{HubState, named_wagons, event_body_for, journey_after}
use Rattle.hub_model.specs.Units.{is_unit_busy, units_in}

-- no accepted plan names the wagon
abbrev pub is_unknown : List Event → Bool
is_unknown [] = true
is_unknown (e ∷ events) = false

-- it has a journey without delivery
abbrev pub is_busy : List Event → Bool
is_busy events = not (is_unknown events) && not (is_delivered events)

-- what may be wrong with a message as a whole, in the order of the checks
abbrev pub whole_checks : HubState → Railway → Body → List (Bool × Why)
whole_checks s by (body.Plan p) = (is_some (s.plan_of p.consignment), ConsignmentTaken) ∷ []
whole_checks s by (body.Answer a) =
    (is_none (s.offer a.offerer a.offer), UnknownOffer) ∷
    (not (is_text (asked_by (s.offer a.offerer a.offer)) by), NotYours) ∷
    (not (s.is_open a.offerer a.offer), OfferClosed) ∷
    (not (matches (wagons_of (s.offer a.offerer a.offer)) (a.received ++ a.refused)), ListsDiffer) ∷ []
whole_checks s by (body.Withdraw at n) =
    (is_none (s.offer by n), UnknownOffer) ∷
    (not (s.is_open by n), OfferClosed) ∷ []
whole_checks s by _ = []

-- why the message as a whole is refused, if it is
abbrev pub whole_fault : HubState → Railway → Body → Option Why
whole_fault s by says = first_of (whole_checks s by says)

-- the checks of one wagon by its own events
abbrev pub known_fault : HubState → Message → ℕ → Option Why
known_fault s m w =
    if is_unknown (s.journey w) then Some UnknownWagon else refusal (s.journey w) m.by (event_body_for s.offer m.by m.body w)

-- with the message, an estimate of the wagon would pass the calendar
abbrev pub calendar_fault : HubState → Message → ℕ → Option Why
calendar_fault s m w =
    if is_calendar_checked (event_body_for s.offer m.by m.body w) && not (fits (journey_after s m w)) then Some BeyondCalendar else None

-- the checks of one wagon that the message names
abbrev pub wagon_fault : HubState → Message → Body → ℕ → Option Why
wagon_fault s m (body.Plan p) w = if is_busy (s.journey w) then Some WagonBusy else None
wagon_fault s m (body.Answer a) w = calendar_fault s m w
wagon_fault s m (body.Withdraw at n) w = None
wagon_fault s m _ w = option_or (known_fault s m w) (calendar_fault s m w)

-- the first wagon that has a fault
abbrev pub first_fault : HubState → Message → List ℕ → Option Fault
first_fault s m [] = None
first_fault s m (w ∷ wagons) =
    option_or (option_map (λ why. record { why = why; wagon = Some w }) (wagon_fault s m m.body w)) (first_fault s m wagons)

-- the first unit that is busy, at the wagon that it is to be loaded on
abbrev pub unit_fault : HubState → List UnitLoad → Option Fault
unit_fault s [] = None
unit_fault s (l ∷ units) = if is_unit_busy s l.unit then Some (record { why = UnitBusy; wagon = Some l.wagon }) else unit_fault s units

-- why the message is refused, if it is new: as a whole, at a wagon, or for a unit
abbrev pub fault : HubState → Message → Option Fault
fault s m =
    option_or (option_map (λ why. record { why = why; wagon = None }) (whole_fault s m.by m.body))
    (option_or (first_fault s m (named_wagons s.offer m)) (unit_fault s (units_in m.body)))
