use Rattle.std.proofs.Common.{◌≡◌, ◌∙◌, ap, length, drop, slice_get, get_or, Some, ◌<◌, ◌+◌, ◌-◌, arith}
use Rattle.std.proofs.lemmas.List.{get_or-drop, length-drop}
use Rattle.std.proofs.lemmas.Option.{slice_get-get_or}
use Rattle.hub_tables.specs.TableStates.{table_state}
use Rattle.hub_answers.proofs.SelectionLemmas.{found}
use Rattle.hub_answers.proofs.FindLemmas.{record_in}
use Rattle.hub_answers.proofs.fleet.view_part.Goals as goal

pub loop-i-preserved : goal.loop-i-preserved
loop-i-preserved c =
    let s = table_state c.args.tables.now in
    let n = c.args.from in
    let i = c.loop-i.i in
    let rest = drop n s.fleet in
    let long : length rest ≡ length s.fleet - n = length-drop n s.fleet in
    let within : n + i < length s.fleet = omega arith in
    let inside : i < length rest = omega (long, arith) in
    let there : slice_get s.fleet (n + i) ≡ Some (get_or s.fleet (n + i) 0) = slice_get-get_or s.fleet (n + i) 0 within in
    let here : slice_get rest i ≡ Some (get_or s.fleet (n + i) 0) = slice_get-get_or rest i 0 inside ∙ ap Some (get_or-drop n s.fleet i 0) in
    rw c.in_ok-push.ensures.items
    (found (record_in s) rest i _ c.loop-i.records.items _ here (c.in_ok-record_at.ensures _ there) c.loop-i.invariant)
