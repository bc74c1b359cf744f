use Rattle.std.proofs.Common.{◌≡◌, ◌∙◌, ap, sym, length, drop, slice_get, get_or, Some, None, ◌<◌, ◌+◌, ◌-◌, arith}
use Rattle.std.proofs.lemmas.List.{get_or-drop, length-drop}
use Rattle.std.proofs.lemmas.Option.{slice_get-get_or}
use Rattle.hub_tables.specs.TableStates.{table_state}
use Rattle.hub_answers.specs.Shown.{shown_of}
use Rattle.hub_answers.proofs.SelectionLemmas.{found, passed}
use Rattle.hub_answers.proofs.shown.shown_part.Goals as goal
use Rattle.hub_answers.proofs.shown.shown_part.Goals.{in-Some+in_ok-push, in_default}

pub loop-i-preserved : goal.loop-i-preserved
loop-i-preserved c =
    let s = table_state c.args.tables.now in
    let n = c.args.from in
    let i = c.loop-i.i in
    let rest = drop n s.fleet in
    let long : length rest ≡ length s.fleet - n = length-drop n s.fleet in
    let within : n + i < length s.fleet = omega arith in
    let inside : i < length rest = omega (long, arith) in
    let there : slice_get s.fleet (n + i) ≡ Some (get_or s.fleet (n + i) 0) = slice_get-get_or s.fleet (n + i) 0 within in
    let here : slice_get rest i ≡ Some (get_or s.fleet (n + i) 0) = slice_get-get_or rest i 0 inside ∙ ap Some (get_or-drop n s.fleet i 0) in
    let f = shown_of s c.args.by in
    let told = c.in_ok-shown.ensures _ there in
    elim c.match-branch-2.branch [
      | in-Some+in_ok-push w ↦
          rw (w.wagons-is, w.in_ok-push.ensures.items)
          (found f rest i _ c.loop-i.wagons.items _ here (sym told ∙ w.in-Some.is) c.loop-i.invariant)
      | in_default w ↦
          rw w.wagons-is
          (passed f rest i _ c.loop-i.wagons.items here (sym told ∙ w.in_default.is) c.loop-i.invariant)
    ]
