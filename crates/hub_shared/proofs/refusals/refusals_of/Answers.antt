use Rattle.std.proofs.Common.{◌≡◌, ◌∙◌, refl, sym, length, drop, slice_get, Some, ◌<◌, ◌+◌, ◌-◌, arith}
use Rattle.std.proofs.lemmas.List.{get_or-drop, length-drop}
use Rattle.hub_model.specs.declared.entry.Entry.{Entry}
use Rattle.hub_shared.specs.Looks.{why_of}
use Rattle.hub_answers.proofs.SelectionLemmas.{found, passed}
use Rattle.hub_shared.proofs.Common.{get_or_from_slice_get, slice_get_read}
use Rattle.hub_shared.proofs.refusals.refusals_of.Goals as goal
use Rattle.hub_shared.proofs.refusals.refusals_of.Goals.{in-Some+in_ok-push, in_default}

pub loop-i-preserved : goal.loop-i-preserved
loop-i-preserved c =
    let history = c.args.hub.now in
    let n = c.args.from in
    let i = c.loop-i.i in
    let rest = drop n history in
    let at = c.why_at.ensures in
    let long : length rest ≡ length history - n = length-drop n history in
    let inside : i < length rest = omega (long, arith) in
    let here : slice_get rest i ≡ Some at.0 =
    slice_get_read rest _ i at.0 refl inside (sym (get_or-drop n history i at.0 ∙ get_or_from_slice_get history (n + i) at.0 at.0 at.1)) in
    let f = λ (e : Entry). why_of e.reply in
    elim c.match-why_at.branch [
      | in-Some+in_ok-push w ↦
          rw (w.whys-is, w.in_ok-push.ensures.items)
          (found f rest i at.0 c.loop-i.whys.items _ here (sym at.2 ∙ w.in-Some.is) c.loop-i.invariant)
      | in_default w ↦
          rw w.whys-is
          (passed f rest i at.0 c.loop-i.whys.items here (sym at.2 ∙ w.in_default.is) c.loop-i.invariant)
    ]
