use Rattle.eti_chain.proofs.Common.{◌≡◌, length, ap, sym, ◌∙◌, eta_in, end_before, basis_from, EstimatesInTurn}
use Rattle.eti_chain.proofs.EstimateTurnLemmas.{end_of_all}
use Rattle.eti_chain.proofs.estimates_in_turn.EstimatesInTurn.eta.Goals as goal

pub returns : goal.returns
returns c =
    let t = c.self.inside in
    let r = basis_from t.leg_index t.legs.now t.anchor in
    let turn : t.leg ≡ length t.legs.now = ap (λ (k : EstimatesInTurn). k.leg) c.self.view_is ∙ c.requires ∙ sym (ap (λ (k : EstimatesInTurn). length k.estimate_basis.legs) c.self.view_is) in
    c.self.invariant.summed ∙ ap (end_before r) turn ∙ end_of_all r c.self.invariant.within.on_a_leg ∙ ap (λ (k : EstimatesInTurn). eta_in k.estimate_basis) c.self.view_is
