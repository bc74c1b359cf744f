use Rattle.wimo.proofs.Common.{ap, ◌∙◌, sym, Some, None, ◌++◌, ◌∷◌, [], option_map, append-nil, EstimatesInTurn, end_in}
use Rattle.eti_chain.specs.Estimates as of
use Rattle.wimo.proofs.RecordEventLemmas.{found_more, at_leg}
use Rattle.wimo.proofs.record.estimates_of.Goals as goal
use Rattle.wimo.proofs.record.estimates_of.Goals.{in-Some+in_ok-push, in_default}

pub loop-leg-preserved : goal.loop-leg-preserved
loop-leg-preserved c =
    let events = c.args.track.now.events in
    let n = c.loop-leg.leg in
    let before = c.loop-leg.shown.items in
    let expected = c.next_estimate.ensures.value ∙ ap (λ (k : EstimatesInTurn). end_in k.estimate_basis k.leg) c.loop-leg.invariant.turn in
    let shown_more = found_more (λ j. option_map (at_leg j) (of.estimate events j)) n before c.match-next_estimate.shown.items in
    record {
      shown = elim c.match-next_estimate.branch [
        | in-Some+in_ok-push w ↦
            shown_more (Some (at_leg n w.in-Some.at)) c.loop-leg.invariant.shown
            (ap (λ v. v.items) w.shown-is ∙ w.in_ok-push.ensures.items ∙ ap (λ k. before ++ at_leg k w.in-Some.at ∷ []) w.leg_number-leg.ensures)
            (ap (option_map (at_leg n)) (sym expected ∙ w.in-Some.is))
        | in_default w ↦ shown_more None c.loop-leg.invariant.shown (ap (λ v. v.items) w.shown-is ∙ sym (append-nil before)) (ap (option_map (at_leg n)) (sym expected ∙ w.in_default.is))
      ];
      turn = rw c.loop-leg.invariant.turn at c.next_estimate.ensures.next;
    }
