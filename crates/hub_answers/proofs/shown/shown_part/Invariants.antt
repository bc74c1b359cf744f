use Rattle.std.proofs.Common.{◌≡◌, filter_map, take, drop}
use Rattle.hub_answers.specs.Shown.{shown_of}
use Rattle.hub_tables.specs.TableStates.{table_state}
use Rattle.hub_answers.proofs.shown.shown_part.Given as goal

abbrev pub invariant-loop-i : goal.invariant-loop-i
invariant-loop-i l =
    let s = table_state l.tables in
    l.wagons.items ≡ filter_map (shown_of s l.by) (take l.i (drop l.from s.fleet))
