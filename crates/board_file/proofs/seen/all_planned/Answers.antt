use Rattle.std.proofs.Common.{◌≡◌, ◌∙◌, ap, sym, slice_get, Some, filter_map}
use Rattle.std.proofs.lemmas.List.{take_all}
use Rattle.std.proofs.lemmas.Option.{slice_get-get_or}
use Rattle.hub_model.specs.Histories.{state_of}
use Rattle.hub_answers.proofs.SelectionLemmas.{found, passed}
use Rattle.board_file.specs.Files.{all_planned}
use Rattle.board_file.proofs.SeenLemmas.{seen_by_lead, all_seen}
use Rattle.board_file.proofs.seen.all_planned.Goals as goal
use Rattle.board_file.proofs.seen.all_planned.Goals.{in-Some+in_ok-push, in_default}

pub loop-record-preserved : goal.loop-record-preserved
loop-record-preserved c =
    let s = state_of c.args.hub.now in
    let records = c.records-records.result.now in
    let i = c.loop-record.record-index in
    let r = c.record-item.result in
    let there : slice_get records i ≡ Some r = slice_get-get_or records i r c.loop-record-test.true ∙ ap Some (sym c.record-item.is) in
    let told = c.in_ok-shown.ensures in
    elim c.match-branch-4.branch [
      | in-Some+in_ok-push w ↦
          rw (w.seen-is, w.in_ok-push.ensures.items)
          (found (seen_by_lead s) records i r c.loop-record.seen.items _ there (sym told ∙ w.in-Some.is) c.loop-record.invariant)
      | in_default w ↦
          rw w.seen-is
          (passed (seen_by_lead s) records i r c.loop-record.seen.items there (sym told ∙ w.in_default.is) c.loop-record.invariant)
    ]

pub returns : goal.returns
unfolding all_planned
returns c =
    let s = state_of c.args.hub.now in
    let records = c.records-records.result.now in
    let i = c.loop-record.record-index in
    c.loop-record.invariant
    ∙ ap (filter_map (seen_by_lead s)) (take_all i records c.loop-record-test.false ∙ c.records-records.ensures ∙ c.in_ok-view.ensures)
    ∙ all_seen s s.fleet
