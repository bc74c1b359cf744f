use Rattle.hub_tables.proofs.Common.{◌≡◌, ℕ, false, Some, None, if◌then◌else◌, refl, sym, ap, ◌∙◌, Railway, TrainAnswer, offer_given, opening_given, same_name, continues_journeys, known_before}
use Rattle.hub_tables.proofs.AcceptanceLemmas.{on_both, taken_known, goes_taken, closing_taken, single_taken}
use Rattle.hub_tables.proofs.tables.Tables.complete.Goals as goal

pub returns-in-Offer-clause-ok : goal.returns-in-Offer-clause-ok
returns-in-Offer-clause-ok c =
    let s = known_before c.args.self.now c.args.changes.now in
    let m = c.args.message.now in
    let is = sym c.body.ensures ∙ c.in-Offer.is in
    on_both c.accept_offer.result (λ finds opens. taken_known s _ m (goes_taken s _ _ c.accept_offer.new.offers m c.self.view_is (ap continues_journeys is) c.requires.gone_on.known finds opens)) c.accept_offer.ensures.finds c.accept_offer.ensures.opens

pub returns-in-Answer-clause-ok : goal.returns-in-Answer-clause-ok
returns-in-Answer-clause-ok c =
    let s = known_before c.args.self.now c.args.changes.now in
    let m = c.args.message.now in
    let is = sym c.body.ensures ∙ c.in-Answer.is in
    let a : TrainAnswer = c.get-in-Answer.result.now in
    let closes : (by : Railway) (n : ℕ) → opening_given m m.body by n ≡ (if same_name a.offerer a.offer by n then Some false else None) =
    λ by n. ap (λ says. opening_given m says by n) is ∙ ap (λ (b : TrainAnswer). if same_name b.offerer b.offer by n then Some false else None) (sym c.get-in-Answer.ensures) in
    taken_known s _ m (closing_taken s _ _ c.close_offer.new.self m a.offerer a.offer c.self-in-Answer.view_is (ap continues_journeys is) c.requires.gone_on.known (λ by n. ap (λ says. offer_given m says by n) is) closes c.close_offer.ensures.finds c.close_offer.ensures.closes)

pub returns-in-Withdraw-clause-ok : goal.returns-in-Withdraw-clause-ok
returns-in-Withdraw-clause-ok c =
    let s = known_before c.args.self.now c.args.changes.now in
    let m = c.args.message.now in
    let is = sym c.body.ensures ∙ c.in-Withdraw.is in
    let closes : (by : Railway) (n : ℕ) → opening_given m m.body by n ≡ (if same_name c.by.result c.in-Withdraw.offer by n then Some false else None) =
    λ by n. ap (λ says. opening_given m says by n) is ∙ ap (λ (of : Railway). if same_name of c.in-Withdraw.offer by n then Some false else None) (sym c.by.ensures) in
    taken_known s _ m
    (closing_taken s _ _ c.close_offer-in-Withdraw.new.self m c.by.result c.in-Withdraw.offer c.self-in-Withdraw.view_is (ap continues_journeys is) c.requires.gone_on.known (λ by n. ap (λ says. offer_given m says by n) is) closes c.close_offer-in-Withdraw.ensures.finds c.close_offer-in-Withdraw.ensures.closes)

pub returns-in_default-clause-ok : goal.returns-in_default-clause-ok
returns-in_default-clause-ok c =
    let s = known_before c.args.self.now c.args.changes.now in
    let m = c.args.message.now in
    taken_known s c.args.self.now m
    (single_taken s c.args.self.now m m.body refl (λ p e. c.in_default.not-Plan p (c.body.ensures ∙ e)) (λ o e. c.in_default.not-Offer o (c.body.ensures ∙ e)) (λ a e. c.in_default.not-Answer a (c.body.ensures ∙ e))
    (λ at k e. c.in_default.not-Withdraw at k (c.body.ensures ∙ e)) c.requires.gone_on.known)
