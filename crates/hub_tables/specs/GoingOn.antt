-- How the journeys of a message's wagons go on by it, one after another.
use Rattle.std.specs.Prelude.{◌≡◌, ℕ, true, if◌then◌else◌, List, [], ◌∷◌, ◌++◌, All, Option, Some, None}
use Rattle.std.specs.Option.{option_or}
use Rattle.trip_plan.specs.Rules.{has, all_differ}
use Rattle.taf_messages.specs.declared.message.Message.{Message}
use Rattle.taf_messages.specs.declared.reply.Why.{Why}
use Rattle.eti_chain.specs.Estimates.{fits}
use Rattle.hub_model.specs.HubState.{HubState, named_wagons, journey_after}
use Rattle.hub_model.specs.Faults.{whole_fault, known_fault, calendar_fault}
use Rattle.hub_model.specs.Laws.{OpenIsOffered}
use Rattle.hub_tables.specs.TableStates.{TableEntries, table_state, continues_journeys}
use Rattle.hub_tables.specs.Changes.{changed, IsChange}
use Rattle.hub_tables.specs.declared.changes.Change.{Change}

-- the checks of one wagon whose journey goes on by the message: by its own events, and then by the calendar
abbrev pub wagon_refusal : HubState → Message → ℕ → Option Why
wagon_refusal s m w = option_or (known_fault s m w) (calendar_fault s m w)

-- where a wagon that the message names passes its checks, no estimate of it passes the calendar afterwards
abbrev pub KeepsCalendar : HubState → Message → Type 0
KeepsCalendar s m = continues_journeys m.body ≡ true → (w : ℕ) → has (named_wagons s.offer m) w ≡ true → wagon_refusal s m w ≡ None → fits (journey_after s m w) ≡ true

-- the message is not refused as a whole, and goes on with the journeys of wagons that all differ
pub record GoesOn (s : HubState) (m : Message) : Type 0 where
  pub offered : OpenIsOffered s
  pub calendar : KeepsCalendar s m
  pub continues : continues_journeys m.body ≡ true
  pub whole : whole_fault s m.by m.body ≡ None
  pub differ : all_differ (named_wagons s.offer m) ≡ true

-- the message names the wagon, which passes its checks
pub record Passes (s : HubState) (m : Message) (w : ℕ) : Type 0 where
  pub is_named : has (named_wagons s.offer m) w ≡ true
  pub admits : wagon_refusal s m w ≡ None

-- what is known once the journeys of these wagons have gone on by the message
abbrev pub after_each : HubState → Message → List ℕ → HubState
after_each s m ws = record s { journey = λ w. if has ws w then journey_after s m w else s.journey w }

-- the journeys of these wagons, which passed their checks, have gone on by the message with these changes
pub record HaveGoneOn (s : HubState) (t : TableEntries) (m : Message) (ws : List ℕ) (cs : List Change) : Type 0 where
  pub known : table_state t ≡ after_each s m ws
  pub wagons : changed cs ≡ ws
  pub passed : (w : ℕ) → has ws w ≡ true → Passes s m w
  pub each : All (IsChange t) cs

-- the wagon's journey has gone on by the message, with the change that the list has got
pub record HasGoneOnWithOneMore (s : HubState) (t : TableEntries) (m : Message) (w : ℕ) (old new : List Change) : Type 0 where
  pub change : Change
  pub gone_on : HaveGoneOn s t m (w ∷ []) (change ∷ [])
  pub listed : new ≡ old ++ change ∷ []

-- the wagon's journey has gone on by the message, or it is refused so, and nothing is changed
abbrev pub IsGoneOnOrRefused : HubState → TableEntries → Message → ℕ → List Change → List Change → Option Why → Type 0
IsGoneOnOrRefused s t m w old new None = HasGoneOnWithOneMore s t m w old new
IsGoneOnOrRefused s t m w old new (Some why) = (wagon_refusal s m w ≡ Some why) × (table_state t ≡ s) × (new ≡ old)
