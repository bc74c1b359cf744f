use Rattle.std.proofs.Common.{◌≡◌, filter_map, take}
use Rattle.hub_tables.specs.TableStates.{table_state}
use Rattle.hub_answers.proofs.FindLemmas.{deviation_of}
use Rattle.hub_answers.proofs.deviations.deviating_records.Given as goal

abbrev pub invariant-loop-wagon : goal.invariant-loop-wagon
invariant-loop-wagon l = l.late.items ≡ filter_map (deviation_of (table_state l.tables) l.plan) (take l.wagon-index l.wagon-items)
