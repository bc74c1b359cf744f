use Rattle.std.proofs.Common.{◌≡◌, filter_map, take, drop}
use Rattle.hub_tables.specs.TableStates.{table_state}
use Rattle.hub_answers.proofs.FindLemmas.{record_in}
use Rattle.hub_answers.proofs.fleet.view_part.Given as goal

abbrev pub invariant-loop-i : goal.invariant-loop-i
invariant-loop-i l =
    let s = table_state l.tables in
    l.records.items ≡ filter_map (record_in s) (take l.i (drop l.from s.fleet))
