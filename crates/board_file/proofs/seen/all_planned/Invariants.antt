use Rattle.std.proofs.Common.{◌≡◌, filter_map, take}
use Rattle.hub_model.specs.Histories.{state_of}
use Rattle.board_file.proofs.SeenLemmas.{seen_by_lead}
use Rattle.board_file.proofs.seen.all_planned.Given as goal

-- the wagons of the records so far
abbrev pub invariant-loop-record : goal.invariant-loop-record
invariant-loop-record l = l.seen.items ≡ filter_map (seen_by_lead (state_of l.hub)) (take l.record-index l.records)
