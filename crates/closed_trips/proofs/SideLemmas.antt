-- A message that passes the test is on one side.
use Rattle.closed_trips.proofs.Common.{◌≡◌, ℕ, Bool, true, false, List, [], ◌∷◌, ◌++◌, Option, Some, None, refl, ap, ◌∙◌, sym, inl, inr, eqb, map, bytes_eq, or_cases, and_parts, eqb-true, same_Some, list_any-append, bytes_eq-Decides, Railway, UnitCode, ConsignmentId, UnitLoad, has, loads, Message, Body, Names, IsOnOneSide, is_of, is_on, are_wagons_on, are_loads_on, is_body_on, is_on_one_side}
use Rattle.taf_messages.specs.declared.message.Body.TheVariants as body
use Rattle.hub_model.specs.Overtaking.{consignment_in, offer_named}
use Rattle.hub_model.specs.Units.{units_in}
use Rattle.carry_over.specs.Names.{wagons_written}

on_its_side : (side stays : Bool) → is_on side stays ≡ true → stays ≡ side
on_its_side true stays e = e
on_its_side false true e = sym e
on_its_side false false e = refl

none_is : {A : Type 0} {B : Type 0} (x : A) → Path (Option A) None (Some x) → B
none_is x e = absurd cc

module _ (names : Names) (side : Bool) where
  wagons_on : (ws : List ℕ) → are_wagons_on names side ws ≡ true → (w : ℕ) → has ws w ≡ true → names.wagon w ≡ side
  wagons_on [] on w h = absurd cc
  wagons_on (v ∷ ws) on w h =
      let parts = and_parts (is_on side (names.wagon v)) (are_wagons_on names side ws) on in
      elim (or_cases (eqb v w) (has ws w) h) [
        | inl e ↦ ap names.wagon (sym (eqb-true v w e)) ∙ on_its_side side (names.wagon v) parts.0
        | inr e ↦ wagons_on ws parts.1 w e
      ]

  load_wagons_on : (ls : List UnitLoad) → are_loads_on names side ls ≡ true → (w : ℕ) → has (map (λ (l : UnitLoad). l.wagon) ls) w ≡ true → names.wagon w ≡ side
  load_wagons_on [] on w h = absurd cc
  load_wagons_on (l ∷ ls) on w h =
      let parts = and_parts _ (are_loads_on names side ls) on in
      let own = and_parts (is_on side (names.unit l.unit)) (is_on side (names.wagon l.wagon)) parts.0 in
      elim (or_cases (eqb l.wagon w) (has (map (λ (x : UnitLoad). x.wagon) ls) w) h) [
        | inl e ↦ ap names.wagon (sym (eqb-true l.wagon w e)) ∙ on_its_side side (names.wagon l.wagon) own.1
        | inr e ↦ load_wagons_on ls parts.1 w e
      ]

  units_on : (ls : List UnitLoad) → are_loads_on names side ls ≡ true → (u : UnitCode) → loads ls u ≡ true → names.unit u ≡ side
  units_on [] on u h = absurd cc
  units_on (l ∷ ls) on u h =
      let parts = and_parts _ (are_loads_on names side ls) on in
      let own = and_parts (is_on side (names.unit l.unit)) (is_on side (names.wagon l.wagon)) parts.0 in
      elim (or_cases (bytes_eq l.unit u) (loads ls u) h) [
        | inl e ↦ ap names.unit (sym ((bytes_eq-Decides l.unit u).0 e)) ∙ on_its_side side (names.unit l.unit) own.0
        | inr e ↦ units_on ls parts.1 u e
      ]

  both_on : (ws vs : List ℕ) → ((w : ℕ) → has ws w ≡ true → names.wagon w ≡ side) → ((w : ℕ) → has vs w ≡ true → names.wagon w ≡ side) → (w : ℕ) → has (ws ++ vs) w ≡ true → names.wagon w ≡ side
  both_on ws vs f g w h = elim (or_cases (has ws w) (has vs w) (sym (list_any-append (λ v. eqb v w) ws vs) ∙ h)) [ inl e ↦ f w e | inr e ↦ g w e ]

  one_on : (v : ℕ) → is_on side (names.wagon v) ≡ true → (w : ℕ) → has (v ∷ []) w ≡ true → names.wagon w ≡ side
  one_on v on w h = wagons_on (v ∷ []) (rw on refl) w h

  -- the wagons that a message on this side writes
  written_on : (by : Railway) (says : Body) → is_body_on names side by says ≡ true → (w : ℕ) → has (wagons_written says) w ≡ true → names.wagon w ≡ side
  written_on by (body.Plan p) on =
      let lists = and_parts (are_wagons_on names side p.wagons) (are_loads_on names side p.units) (and_parts (is_on side (names.consignment p.consignment)) _ on).1 in
      both_on p.wagons (map (λ (l : UnitLoad). l.wagon) p.units) (wagons_on p.wagons lists.0) (load_wagons_on p.units lists.1)
  written_on by (body.Movement m) on = one_on m.wagon on
  written_on by (body.EtiAsk v) on = one_on v on
  written_on by (body.LegTime v leg minutes) on = one_on v on
  written_on by (body.Offer o) on = wagons_on o.wagons on
  written_on by (body.Answer a) on =
      let lists = and_parts (are_wagons_on names side a.received) (are_wagons_on names side a.refused) (and_parts (is_on side (names.message a.offerer a.offer)) _ on).1 in
      both_on a.received a.refused (wagons_on a.received lists.0) (wagons_on a.refused lists.1)
  written_on by (body.Withdraw at n) on = λ w h. absurd cc
  written_on by (body.Reroute v route) on = one_on v on

  units_of : (by : Railway) (says : Body) → is_body_on names side by says ≡ true → (u : UnitCode) → loads (units_in says) u ≡ true → names.unit u ≡ side
  units_of by (body.Plan p) on = units_on p.units (and_parts (are_wagons_on names side p.wagons) (are_loads_on names side p.units) (and_parts (is_on side (names.consignment p.consignment)) _ on).1).1
  units_of by _ on = λ u h. absurd cc

  consignment_of : (by : Railway) (says : Body) → is_body_on names side by says ≡ true → (c : ConsignmentId) → Path (Option ConsignmentId) (consignment_in says) (Some c) → names.consignment c ≡ side
  consignment_of by (body.Plan p) on = λ c e. ap names.consignment (sym (same_Some p.consignment c e)) ∙ on_its_side side (names.consignment p.consignment) (and_parts (is_on side (names.consignment p.consignment)) _ on).0
  consignment_of by _ on = λ c e. none_is c e

  named : (by also : Railway) (n k : ℕ) → is_on side (names.message by n) ≡ true → Path (Option (Railway × ℕ)) (Some (by, n)) (Some (also, k)) → names.message also k ≡ side
  named by also n k on e = ap (λ (name : Railway × ℕ). names.message name.0 name.1) (sym (same_Some (by, n) (also, k) e)) ∙ on_its_side side (names.message by n) on

offer_of : (names : Names) (m : Message) (says : Body) → is_body_on names (is_of names m) m.by says ≡ true → (by : Railway) (n : ℕ) → Path (Option (Railway × ℕ)) (offer_named m says) (Some (by, n)) → names.message by n ≡ is_of names m
offer_of names m (body.Offer o) on by n e = ap (λ (name : Railway × ℕ). names.message name.0 name.1) (sym (same_Some (m.by, m.no) (by, n) e))
offer_of names m (body.Answer a) on by n e = named names (is_of names m) a.offerer by a.offer n (and_parts (is_on (is_of names m) (names.message a.offerer a.offer)) _ on).0 e
offer_of names m (body.Withdraw at k) on by n e = named names (is_of names m) m.by by k n on e
offer_of names m (body.Plan p) on by n e = none_is (by, n) e
offer_of names m (body.Movement v) on by n e = none_is (by, n) e
offer_of names m (body.EtiAsk v) on by n e = none_is (by, n) e
offer_of names m (body.LegTime v leg minutes) on by n e = none_is (by, n) e
offer_of names m (body.Reroute v route) on by n e = none_is (by, n) e

pub on_one_side : (names : Names) (m : Message) → is_on_one_side names m ≡ true → IsOnOneSide names m
on_one_side names m on = record {
  wagons = written_on names (is_of names m) m.by m.body on;
  units = units_of names (is_of names m) m.by m.body on;
  consignments = consignment_of names (is_of names m) m.by m.body on;
  offers = offer_of names m m.body on;
}
