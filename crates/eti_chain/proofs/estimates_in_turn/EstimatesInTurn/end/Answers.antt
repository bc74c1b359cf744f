use Rattle.eti_chain.proofs.Common.{ap, sym, ◌∙◌, ◌+◌, ◌<◌, arith, option_map, end_in, basis_from, EstimatesInTurn}
use Rattle.eti_chain.proofs.EstimateTurnLemmas.{end_later, later_fits}
use Rattle.eti_chain.proofs.estimates_in_turn.EstimatesInTurn.end.Goals as goal

pub later-requires : goal.later-requires
later-requires c =
    let t = c.self.inside in
    let low = c.requires.not_behind in
    let low = rw (← c.self.view_is) at low in
    let past : t.leg_index < t.leg = omega (arith, low, c.if-self.false) in
    let high = c.requires.a_leg in
    later_fits (basis_from t.leg_index t.legs.now t.anchor) t.leg c.index-self-self.result t.at c.self.invariant.within past (rw (← c.self.view_is) at high) c.self.invariant.summed

pub returns-else-self : goal.returns-else-self
returns-else-self c =
    let t = c.self.inside in
    let low = c.requires.not_behind in
    let low = rw (← c.self.view_is) at low in
    let past : t.leg_index < t.leg = omega (arith, low, c.if-self.false) in
    let high = c.requires.a_leg in
    c.later.ensures ∙ ap (option_map (λ m. m + _)) c.self.invariant.summed ∙
    sym (end_later (basis_from t.leg_index t.legs.now t.anchor) t.leg c.index-self-self.result past (rw (← c.self.view_is) at high)) ∙ ap (λ (k : EstimatesInTurn). end_in k.estimate_basis k.leg) c.self.view_is
