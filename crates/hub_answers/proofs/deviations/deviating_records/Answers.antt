use Rattle.std.proofs.Common.{◌≡◌, ◌∙◌, sym, ap, refl, filter_map, take_all, length, slice_get, Some}
use Rattle.std.proofs.lemmas.Option.{slice_get_read}
use Rattle.hub_tables.specs.TableStates.{table_state}
use Rattle.hub_answers.proofs.SelectionLemmas.{found, passed}
use Rattle.hub_answers.proofs.FindLemmas.{deviation_of, all_deviations}
use Rattle.hub_answers.proofs.deviations.deviating_records.Goals as goal
use Rattle.hub_answers.proofs.deviations.deviating_records.Goals.{in-Some+in_ok-push, in_default}

pub loop-wagon-preserved : goal.loop-wagon-preserved
loop-wagon-preserved c =
    let s = table_state c.args.tables.now in
    let xs = c.wagons-wagon-items.result.now in
    let f = deviation_of s c.args.plan.now in
    let here : slice_get xs c.loop-wagon.wagon-index ≡ Some c.wagon-item.result = slice_get_read xs (length xs) _ _ refl c.loop-wagon-test.true c.wagon-item.is in
    elim c.match-branch-2.branch [
      | in-Some+in_ok-push w ↦
          rw (w.late-is, w.in_ok-push.ensures.items)
          (found f xs c.loop-wagon.wagon-index c.wagon-item.result c.loop-wagon.late.items w.in-Some.deviation here (sym c.in_ok-deviation.ensures ∙ w.in-Some.is) c.loop-wagon.invariant)
      | in_default w ↦
          rw w.late-is
          (passed f xs c.loop-wagon.wagon-index c.wagon-item.result c.loop-wagon.late.items here (sym c.in_ok-deviation.ensures ∙ w.in_default.is) c.loop-wagon.invariant)
    ]

pub returns : goal.returns
returns c =
    let f = deviation_of (table_state c.args.tables.now) c.args.plan.now in
    c.loop-wagon.invariant ∙ ap (filter_map f) (take_all _ _ c.loop-wagon-test.false ∙ c.wagons-wagon-items.ensures.value) ∙ all_deviations (table_state c.args.tables.now) c.args.plan.now
