-- What a message changed of journeys, and what was known before.
use Rattle.std.specs.Prelude.{◌≡◌, ℕ, ◌==◌, true, if◌then◌else◌, List, [], All, map, slice_get, Option, Some, None}
use Rattle.std.specs.Map.{keys_of}
use Rattle.trip_plan.specs.Rules.{has, all_differ}
use Rattle.taf_messages.specs.declared.message.Message.{Message}
use Rattle.journey.specs.declared.event.Event.{Event}
use Rattle.journey.specs.TrackStates.{without_newest}
use Rattle.hub_model.specs.HubState.{HubState, named_wagons, journey_after}
use Rattle.hub_model.specs.Faults.{fault}
use Rattle.hub_model.specs.declared.fault.Fault.{Fault}
use Rattle.hub_tables.specs.TableStates.{TableEntries, events_in, table_state, continues_journeys}
use Rattle.hub_tables.specs.Acceptance.{IsStateBefore}
use Rattle.hub_tables.specs.declared.changes.Change.{Change}

-- the wagons whose journeys go on by a message: all that it names, unless it is a plan, which begins them
abbrev pub continued_in : HubState → Message → List ℕ
continued_in s m = if continues_journeys m.body then named_wagons s.offer m else []

-- what is known once these journeys have gone on, and nothing else has changed
abbrev pub gone_on : HubState → Message → HubState
gone_on s m = record s { journey = λ w. if continues_journeys m.body then journey_after s m w else s.journey w }

-- the wagons of changes
abbrev pub changed : List Change → List ℕ
changed cs = map (λ c. c.wagon) cs

-- what is known once the journey of one wagon is changed so, and nothing else
abbrev pub with_journey : HubState → ℕ → (List Event → List Event) → HubState
with_journey s wagon change = record s { journey = λ w. if wagon == w then change (s.journey w) else s.journey w }

-- what was known before the newest event of each of these wagons
abbrev pub known_before : TableEntries → List Change → HubState
known_before t cs = record (table_state t) { journey = λ w. if has (changed cs) w then without_newest (events_in t.wagons w) else events_in t.wagons w }

-- the wagon stands at its position, its newest event can be taken back, and this was kept before
pub record IsChange (t : TableEntries) (c : Change) : Type 0 where
  pub position_is : slice_get (keys_of t.wagons) c.position ≡ Some c.wagon
  pub before_is : IsStateBefore (events_in t.wagons c.wagon) c.before

-- these are changes of different wagons
pub record AreChanges (t : TableEntries) (cs : List Change) : Type 0 where
  pub differ : all_differ (changed cs) ≡ true
  pub each : All (IsChange t) cs

-- the journeys of the message's wagons have gone on by it
pub record HasGoneOn (s : HubState) (t : TableEntries) (m : Message) (cs : List Change) : Type 0 where
  pub known : table_state t ≡ gone_on s m
  pub wagons : changed cs ≡ continued_in s m
  pub changes : AreChanges t cs
  pub before : known_before t cs ≡ s

-- a message that is refused has this fault, and changes nothing; by one without a fault journeys have gone on
abbrev pub IsTaken : TableEntries → TableEntries → Message → List Change → Option Fault → Type 0
IsTaken old new m cs (Some f) = (fault (table_state old) m ≡ Some f) × (table_state new ≡ table_state old)
IsTaken old new m cs None = (fault (table_state old) m ≡ None) × HasGoneOn (table_state old) new m cs
