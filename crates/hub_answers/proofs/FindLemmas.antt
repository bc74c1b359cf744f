-- The records that are shown of wagons, as functions of the wagon.
use Rattle.std.proofs.Common.{◌≡◌, ◌&&◌, ℕ, Bool, Option, filter_map}
use Rattle.trip_plan.specs.Trip.{Trip}
use Rattle.taf_messages.specs.declared.record.Record.{Record}
use Rattle.eti_chain.specs.Estimates.{is_late}
use Rattle.wimo.specs.Records.{record_of}
use Rattle.hub_model.specs.HubState.{HubState}
use Rattle.hub_model.specs.Units.{is_on_plan}
use Rattle.hub_model.specs.Replies.{deviating_records}
use Rattle.hub_answers.proofs.SelectionLemmas.{passing, of_filtered}

-- the record of a wagon
abbrev pub record_in : HubState → ℕ → Option Record
record_in s w = record_of w (s.journey w)

-- the wagon is late, and still on the plan
abbrev pub deviates : HubState → Trip → ℕ → Bool
deviates s p w = is_late (s.journey w) && is_on_plan (s.journey w) p

-- its record, if it does
abbrev pub deviation_of : HubState → Trip → ℕ → Option Record
deviation_of s p = passing (deviates s p) (record_in s)

-- the deviations of a plan are those of its wagons
pub all_deviations : (s : HubState) (p : Trip) → filter_map (deviation_of s p) p.wagons ≡ deviating_records s p
all_deviations s p = of_filtered (deviates s p) (record_in s) p.wagons
