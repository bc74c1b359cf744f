-- How many legs, events and items there are at most.
use Rattle.std.specs.Prelude.{◌≡◌, ◌≤◌, ◌<◌, ◌*◌, ℕ, false, List, length, position, slice_get, Option, Some, None, is_some}
use Rattle.std.specs.Option.{option_and_then}
use Rattle.hub_model.specs.Common.{Railway, Message, Body, Event, leg_index, legs, IsJourney}
use Rattle.taf_messages.specs.declared.message.Body.TheVariants as body
use Rattle.hub_model.specs.declared.entry.Entry.{Entry}
use Rattle.hub_model.specs.Faults.{fault, is_unknown}
use Rattle.hub_model.specs.Items.{items_of}
use Rattle.hub_model.specs.Histories.{IsLegal, state_of}
use Rattle.hub_model.specs.AcceptedMessages.{send_of_name}
use Rattle.hub_model.specs.Laws.{EachSend}

-- a plan has one to eight legs
abbrev pub HasFewLegs : Body → Type 0
HasFewLegs (body.Plan p) = (0 < length p.legs) × (length p.legs ≤ 8)
HasFewLegs _ = Unit {0}

-- a message lists at most 60 wagons, and an answer as many received and refused
abbrev pub HasFewWagons : Body → Type 0
HasFewWagons (body.Plan p) = length p.wagons ≤ 60
HasFewWagons (body.Offer o) = length o.wagons ≤ 60
HasFewWagons (body.Answer a) = (length a.received ≤ 60) × (length a.refused ≤ 60)
HasFewWagons _ = Unit {0}

-- a message keeps the limits of its lists
abbrev pub IsWithinLimits : Message → Type 0
IsWithinLimits m = HasFewLegs m.body × HasFewWagons m.body

-- the messages that were sent keep them
abbrev pub AreWithinLimits : List Entry → Type 0
AreWithinLimits history = EachSend IsWithinLimits history

-- a wagon with a journey has one that a track can have, after every legal history: a plan, and events each of which could come next
abbrev pub JourneysAreAdmitted : Type 0
JourneysAreAdmitted = (history : List Entry) → IsLegal history → AreWithinLimits history → (w : ℕ) →
    is_unknown ((state_of history).journey w) ≡ false → IsJourney ((state_of history).journey w)

-- the leg index is below the number of legs, and they are eight at most
abbrev pub IsOnLeg : List Event → Type 0
IsOnLeg events = (leg_index events < length (legs events)) × (length (legs events) ≤ 8)

-- so it is on one of its legs
abbrev pub AlwaysOnLeg : Type 0
AlwaysOnLeg = (history : List Entry) → IsLegal history → AreWithinLimits history → (w : ℕ) →
    is_unknown ((state_of history).journey w) ≡ false → IsOnLeg ((state_of history).journey w)

-- an accepted message makes at most 1,322 items: 122 notices, an estimate for each of 8 legs of 120 wagons, and two alerts for each wagon
abbrev pub ItemsAreFew : Type 0
ItemsAreFew = (history : List Entry) (m : Message) → IsLegal history → AreWithinLimits history → IsWithinLimits m →
    fault (state_of history) m ≡ None → length (items_of (state_of history) m) ≤ 1322

-- so an outbox has at most 1,322 items for each entry
abbrev pub OutboxesAreBounded : Type 0
OutboxesAreBounded = (history : List Entry) (r : Railway) → IsLegal history → AreWithinLimits history →
    length ((state_of history).outbox r) ≤ 1322 * length history

-- what a railway acknowledged is in its outbox
abbrev pub AcknowledgedAreThere : Type 0
AcknowledgedAreThere = (history : List Entry) (r : Railway) → IsLegal history → (state_of history).acknowledged r ≤ length ((state_of history).outbox r)

-- a journey has at most one event for each entry
abbrev pub JourneysAreBounded : Type 0
JourneysAreBounded = (history : List Entry) (w : ℕ) → length ((state_of history).journey w) ≤ length history

-- the position of the first send of a name, from 0
abbrev pub first_position : Railway → ℕ → List Entry → Option ℕ
first_position by n history = position (λ e. is_some (send_of_name by n e.call e.reply)) history

-- the first send of a name stands in the history at its position
pub record StandsAt (history : List Entry) (by : Railway) (n i : ℕ) : Type 0 where
  pub within : i < length history
  pub there : (state_of history).first_send by n ≡ option_and_then (λ e. send_of_name by n e.call e.reply) (slice_get history i)

-- each first send stands at its position, and where there is none, the name has no position
abbrev pub FirstSendsStand : Type 0
FirstSendsStand = (history : List Entry) (by : Railway) (n : ℕ) →
    ((i : ℕ) → first_position by n history ≡ Some i → StandsAt history by n i) ×
    (first_position by n history ≡ None → (state_of history).first_send by n ≡ None)
