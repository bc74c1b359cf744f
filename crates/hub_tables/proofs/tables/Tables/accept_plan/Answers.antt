use Rattle.hub_tables.proofs.Common.{◌≡◌, Some, cond, map, sym, ap, subst, ◌∙◌, nat_eq, bytes_eq, unwrap_or, option_or, lookup, update_all, UnitLoad, Body, insert_all, OfferTable, offer_of, is_standing, offer_given, opening_given, TableEntries, AreJourneyEntries}
use Rattle.hub_tables.proofs.NewJourneyLemmas.{begun, events_entered, entries_entered, keys_entered, plan_entered, unit_entered}
use Rattle.hub_tables.proofs.tables.Tables.accept_plan.Goals as goal

pub invariant_of-self-2 : goal.invariant_of-self-2
invariant_of-self-2 c =
    let old = c.args.self.now in
    let m = c.args.message.now in
    let p = c.args.plan.now in
    let base : c.reserve.new.self.entries ≡ old.wagons = c.in_ok-reserve.ensures.entries ∙ ap (λ (t : TableEntries). t.wagons) c.self.view_is in
    let items = c.in_ok-begun.ensures ∙ ap (map (λ w. (w, begun old m p c.requires.plan w))) c.wagons.ensures.value in
    entries_entered old m p c.requires.plan c.enter.new.table.entries (λ q. c.enter.ensures.values q ∙ (λ i. update_all nat_eq (λ k. lookup (nat_eq k) (base i)) (items i) q)) (subst AreJourneyEntries (ap (λ (t : TableEntries). t.wagons) c.self.view_is) c.self.invariant)

pub returns-clause-ok : goal.returns-clause-ok
returns-clause-ok c =
    let old = c.args.self.now in
    let m = c.args.message.now in
    let p = c.args.plan.now in
    let is = c.requires.plan in
    let base : c.reserve.new.self.entries ≡ old.wagons = c.in_ok-reserve.ensures.entries ∙ ap (λ (t : TableEntries). t.wagons) c.self.view_is in
    let items = c.in_ok-begun.ensures ∙ ap (map (λ w. (w, begun old m p is w))) c.wagons.ensures.value in
    let plans : c.reserve-2.new.self.entries ≡ old.plans = c.in_ok-reserve-2.ensures.entries ∙ ap (λ (t : TableEntries). t.plans) c.self.view_is in
    let units : c.reserve-3.new.self.entries ≡ old.units = c.in_ok-reserve-3.ensures.entries ∙ ap (λ (t : TableEntries). t.units) c.self.view_is in
    let loads = c.in_ok-units.ensures ∙ ap (map (λ (l : UnitLoad). (l.unit, p))) c.units.ensures in
    let offers : c.self.inside.offers ≡ old.offers = ap (λ (t : TableEntries). t.offers) c.self.view_is in
    let updates = rw c.unwrap-before.ensures at c.insert.ensures.updates in
    record {
      events = events_entered old m p is c.enter.new.table.entries (λ q. c.enter.ensures.values q ∙ (λ i. update_all nat_eq (λ k. lookup (nat_eq k) (base i)) (items i) q));
      plans = λ k. plan_entered old m p is c.insert.new.self.entries k (updates.0 k ∙ (λ i. cond (bytes_eq (c.consignment.ensures i) k) (Some (c.in_ok-copy.ensures i)) (lookup (bytes_eq k) (plans i))));
      units = λ u. unit_entered old m p is c.enter-2.new.table.entries u (c.enter-2.ensures.values u ∙ (λ i. update_all bytes_eq (λ k. lookup (bytes_eq k) (units i)) (loads i) u));
      offers = λ by n. ap (λ (t : OfferTable). offer_of t by n) offers ∙ ap (λ (says : Body). option_or (offer_given m says by n) (offer_of old.offers by n)) (sym is);
      opens = λ by n. ap (λ (t : OfferTable). is_standing t by n) offers ∙ ap (λ (says : Body). unwrap_or (opening_given m says by n) (is_standing old.offers by n)) (sym is);
      keys = keys_entered old m p is c.enter.new.table.entries (c.enter.ensures.entries ∙ (λ i. insert_all nat_eq (base i) (items i)));
    }
