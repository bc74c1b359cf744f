-- Messages that are apart share no name.
use Rattle.hub_model.proofs.Common.{◌≡◌, ℕ, Bool, true, false, not, List, [], ◌∷◌, Option, Some, None, refl, ap, sym, subst, eqb, inl, inr, bytes_eq, option_map_or, list_any, and_parts, and_from, or_cases, or_left, or_right, eqb-true, eq-eqb, false≢true, bytes_eq-Decides, Railway, UnitCode, UnitLoad, has, loads, Message, Body, wagons_of, same_name, HubState, named_wagons, unit_wagon, units_in, affected_wagons, consignment_in, offer_named, affects_unit, both_same, have_common_wagon, loads_affected, same_offer_name, is_apart, AreApart, ApartIsExact}
use Rattle.taf_messages.specs.declared.message.Body.TheVariants as body
use Rattle.hub_model.proofs.NamedWagonLemmas.{same_name_true, from_same_name}
use Rattle.hub_model.proofs.DependencyLemmas.{has-left}

pub AreApart-sym : (s : HubState) (m n : Message) → AreApart s m n → AreApart s n m
AreApart-sym s m n p = record {
  wagons = λ w g h. p.wagons w h g;
  units = λ u g h. p.units u h g;
  consignments = λ c g h. p.consignments c h g;
  offers = λ by k g h. p.offers by k h g;
  names = λ e f. p.names (sym e) (sym f);
}

-- a wagon in both lists is found
wagon_shared : (ws vs : List ℕ) (w : ℕ) → has ws w ≡ true → has vs w ≡ true → have_common_wagon ws vs ≡ true
wagon_shared [] vs w g h = absurd (false≢true g)
wagon_shared (u ∷ ws) vs w g h =
    elim (or_cases (eqb u w) (has ws w) g) [
      | inl e ↦ or_left _ _ (subst (λ x. has vs x ≡ true) (sym (eqb-true u w e)) h)
      | inr e ↦ or_right _ _ (wagon_shared ws vs w e h)
    ]

-- a unit that is loaded and passes a test is found
load_found : (P : UnitCode → Bool) (units : List UnitLoad) (u : UnitCode) → loads units u ≡ true → P u ≡ true → list_any (λ l. P l.unit) units ≡ true
load_found P [] u g h = absurd (false≢true g)
load_found P (l ∷ units) u g h =
    elim (or_cases (bytes_eq l.unit u) (loads units u) g) [
      | inl e ↦ or_left _ _ (subst (λ x. P x ≡ true) (sym ((bytes_eq-Decides l.unit u).0 e)) h)
      | inr e ↦ or_right _ _ (load_found P units u e h)
    ]

-- a unit's wagon that both count with is shared
wagon_both : (ws vs : List ℕ) (o : Option ℕ) → option_map_or (λ w. has ws w) o false ≡ true → option_map_or (λ w. has vs w) o false ≡ true → have_common_wagon ws vs ≡ true
wagon_both ws vs None g h = absurd (false≢true g)
wagon_both ws vs (Some w) g h = wagon_shared ws vs w g h

shared : {A : Type 0} (same : A → A → Bool) (a b : Option A) (x : A) → same x x ≡ true → a ≡ Some x → b ≡ Some x → both_same same a b ≡ true
shared same a b x r e f = rw (e, f) r

not_both : (b : Bool) → not b ≡ true → b ≡ true → ⊥
not_both true h e = false≢true h
not_both false h e = false≢true e

-- a unit that both count with is a wagon's or a load's that both count with
unit_shared : (s : HubState) (m n : Message) → not (have_common_wagon (affected_wagons s m m.body) (affected_wagons s n n.body)) ≡ true → not (loads_affected s m n) ≡ true → not (loads_affected s n m) ≡ true →
    (u : UnitCode) → affects_unit s m u ≡ true → affects_unit s n u ≡ true → ⊥
unit_shared s m n wagons first second u g h =
    elim (or_cases (loads (units_in m.body) u) _ g) [
      | inl e ↦ not_both (loads_affected s m n) first (load_found (affects_unit s n) (units_in m.body) u e h)
      | inr e ↦ (elim (or_cases (loads (units_in n.body) u) _ h) [
        | inl f ↦ not_both (loads_affected s n m) second (load_found (affects_unit s m) (units_in n.body) u f g)
        | inr f ↦ not_both (have_common_wagon (affected_wagons s m m.body) (affected_wagons s n n.body)) wagons (wagon_both (affected_wagons s m m.body) (affected_wagons s n n.body) (unit_wagon s u) e f)
      ])
    ]

pub from_apart : (s : HubState) (m n : Message) → is_apart s m n ≡ true → AreApart s m n
from_apart s m n h =
    let ws = have_common_wagon (affected_wagons s m m.body) (affected_wagons s n n.body) in
    let cs = both_same bytes_eq (consignment_in m.body) (consignment_in n.body) in
    let os = both_same same_offer_name (offer_named m m.body) (offer_named n n.body) in
    let ns = same_name m.by m.no n.by n.no in
    let p1 = and_parts (not ws) _ h in
    let p2 = and_parts (not (loads_affected s m n)) _ p1.1 in
    let p3 = and_parts (not (loads_affected s n m)) _ p2.1 in
    let p4 = and_parts (not cs) _ p3.1 in
    let p5 = and_parts (not os) (not ns) p4.1 in
    record {
      wagons = λ w f g. not_both ws p1.0 (wagon_shared (affected_wagons s m m.body) (affected_wagons s n n.body) w f g);
      units = unit_shared s m n p1.0 p2.0 p3.0;
      consignments = λ c f g. not_both cs p4.0 (shared bytes_eq _ _ c ((bytes_eq-Decides c c).1 refl) f g);
      offers = λ by k f g. not_both os p5.0 (shared same_offer_name _ _ (by, k) (same_name_true by by k k refl refl) f g);
      names = λ e f. not_both ns p5.1 (same_name_true m.by n.by m.no n.no e f);
    }

-- a message counts with the wagons that it names
pub counts_named : (s : HubState) (m : Message) (says : Body) (w : ℕ) → has (named_wagons s.offer m) w ≡ true → has (affected_wagons s m says) w ≡ true
counts_named s m (body.Answer a) w h = has-left (named_wagons s.offer m) (wagons_of (s.offer a.offerer a.offer)) w h
counts_named s m _ w h = h

-- where no wagon is in both lists, none is found
no_wagon_shared : (ws vs : List ℕ) → ((w : ℕ) → has ws w ≡ true → has vs w ≡ true → ⊥) → have_common_wagon ws vs ≡ true → ⊥
no_wagon_shared [] vs k h = false≢true h
no_wagon_shared (u ∷ ws) vs k h =
    elim (or_cases (has vs u) (have_common_wagon ws vs) h) [
      | inl e ↦ k u (or_left _ _ (eq-eqb u u refl)) e
      | inr e ↦ no_wagon_shared ws vs (λ w f g. k w (or_right _ _ f) g) e
    ]

no_load_found : (P : UnitCode → Bool) (units : List UnitLoad) → ((u : UnitCode) → loads units u ≡ true → P u ≡ true → ⊥) → list_any (λ l. P l.unit) units ≡ true → ⊥
no_load_found P [] k h = false≢true h
no_load_found P (l ∷ units) k h =
    elim (or_cases (P l.unit) (list_any (λ j. P j.unit) units) h) [
      | inl e ↦ k l.unit (or_left _ _ ((bytes_eq-Decides l.unit l.unit).1 refl)) e
      | inr e ↦ no_load_found P units (λ u f g. k u (or_right _ _ f) g) e
    ]

none_shared : {A : Type 0} (same : A → A → Bool) (a b : Option A) → ((x y : A) → same x y ≡ true → x ≡ y) → ((x : A) → Path (Option A) a (Some x) → Path (Option A) b (Some x) → ⊥) → both_same same a b ≡ true → ⊥
none_shared same None b e k h = false≢true h
none_shared same (Some x) None e k h = false≢true h
none_shared same (Some x) (Some y) e k h = k x refl (ap Some (sym (e x y h)))

same_pairs : (a b : Railway × ℕ) → same_offer_name a b ≡ true → a ≡ b
same_pairs a b h = let e = from_same_name a.0 b.0 a.1 b.1 h in λ i. (e.0 i, e.1 i)

not_true : (b : Bool) → (b ≡ true → ⊥) → not b ≡ true
not_true true k = absurd (k refl)
not_true false k = refl

-- messages that share no name are found to be apart
to_apart : (s : HubState) (m n : Message) → AreApart s m n → is_apart s m n ≡ true
to_apart s m n p =
    let wagons = not_true (have_common_wagon (affected_wagons s m m.body) (affected_wagons s n n.body)) (no_wagon_shared (affected_wagons s m m.body) (affected_wagons s n n.body) p.wagons) in
    let first = not_true (loads_affected s m n) (no_load_found (affects_unit s n) (units_in m.body) (λ u g h. p.units u (or_left _ _ g) h)) in
    let second = not_true (loads_affected s n m) (no_load_found (affects_unit s m) (units_in n.body) (λ u g h. p.units u h (or_left _ _ g))) in
    let plans = not_true (both_same bytes_eq (consignment_in m.body) (consignment_in n.body)) (none_shared bytes_eq (consignment_in m.body) (consignment_in n.body) (λ x y. (bytes_eq-Decides x y).0) p.consignments) in
    let offers = not_true (both_same same_offer_name (offer_named m m.body) (offer_named n n.body)) (none_shared same_offer_name (offer_named m m.body) (offer_named n n.body) same_pairs (λ x g h. p.offers x.0 x.1 g h)) in
    let names = not_true (same_name m.by m.no n.by n.no) (λ h. let e = from_same_name m.by n.by m.no n.no h in p.names e.0 e.1) in
    and_from _ _ wagons (and_from _ _ first (and_from _ _ second (and_from _ _ plans (and_from _ _ offers names))))

pub apart_is_exact : ApartIsExact
apart_is_exact s m n = (from_apart s m n, to_apart s m n)
