-- Where the intermodal units are (4.2.11).
use Rattle.std.specs.Prelude.{ℕ, Bool, not, false, if◌then◌else◌, List, [], find, Option, Some, None, option_map, bytes_eq}
use Rattle.std.specs.Option.{option_map_or, option_and_then}
use Rattle.hub_model.specs.Common.{UnitCode, is_text, UnitLoad, Trip, Body, Event, plan, is_delivered}
use Rattle.taf_messages.specs.declared.message.Body.TheVariants as body
use Rattle.hub_model.specs.HubState.{HubState}

-- the journey begins with this plan; a consignment has one accepted plan
abbrev pub is_on_plan : List Event → Trip → Bool
is_on_plan events p = is_text (option_map (λ q. q.consignment) (plan events)) p.consignment

-- the wagon that a plan loads the unit on
abbrev pub loaded_on : Trip → UnitCode → Option ℕ
loaded_on p u = option_map (λ l. l.wagon) (find (λ l. bytes_eq l.unit u) p.units)

-- that wagon, if its journey begins with the plan
abbrev pub wagon_by : (ℕ → List Event) → Trip → Option ℕ → Option ℕ
wagon_by journey p (Some w) = if is_on_plan (journey w) p then Some w else None
wagon_by journey p None = None

-- the wagon of a unit, by the last accepted plan that loads it
abbrev pub unit_wagon : HubState → UnitCode → Option ℕ
unit_wagon s u = option_and_then (λ p. wagon_by s.journey p (loaded_on p u)) (s.unit_plan u)

-- it has a wagon whose journey has no delivery
abbrev pub is_unit_busy : HubState → UnitCode → Bool
is_unit_busy s u = option_map_or (λ w. not (is_delivered (s.journey w))) (unit_wagon s u) false

-- the units that a message loads
abbrev pub units_in : Body → List UnitLoad
units_in (body.Plan p) = p.units
units_in _ = []
