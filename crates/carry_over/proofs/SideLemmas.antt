-- What a message of one side counts with is on that side, and what is looked up of a name leads to names of its side.
use Rattle.hub_model.proofs.Common.{◌≡◌, ℕ, Bool, true, false, cond, List, [], ◌∷◌, ◌++◌, Option, Some, None, refl, ap, ◌∙◌, sym, subst, inl, inr, eqb, map, bytes_eq, option_map, option_or, or_cases, or_left, or_right, cond_both, eq-eqb, none-some, same_Some, list_any-append, bytes_eq-Decides, Railway, UnitCode, ConsignmentId, UnitLoad, Trip, has, loads, Send, Ack, Reply, Acknowledged, Message, Body, Offer, wagons_of, same_name, HubState, new_state, loaded_on, plan_given, unit_plan_given, offer_given, after_call, step, accepts, affected_wagons}
use Rattle.taf_messages.specs.declared.message.Body.TheVariants as body
use Rattle.hub_model.proofs.NoFaultLemmas.{msg}
use Rattle.hub_model.proofs.NamedWagonLemmas.{from_same_name}
use Rattle.hub_model.proofs.DependencyLemmas.{has-left}
use Rattle.hub_model.proofs.StepLemmas.{step-plan_of, step-unit_plan, step-offer}
use Rattle.std.specs.Prelude.{find}
use Rattle.carry_over.specs.Names.{Names, IsOnOneSide, is_of}

-- the wagons of an offer, of a plan and of a unit's plan are on the side of the name that they are looked up by
abbrev pub OfferSide : Names → Railway → ℕ → Option Offer → Type 0
OfferSide names by n o = (w : ℕ) → has (wagons_of o) w ≡ true → names.wagon w ≡ names.message by n

abbrev pub PlanSide : Names → ConsignmentId → Option Trip → Type 0
PlanSide names c o = (p : Trip) (w : ℕ) → o ≡ Some p → has p.wagons w ≡ true → names.wagon w ≡ names.consignment c

abbrev pub UnitSide : Names → UnitCode → Option Trip → Type 0
UnitSide names u o = (p : Trip) (w : ℕ) → o ≡ Some p → loaded_on p u ≡ Some w → names.wagon w ≡ names.unit u

pub record KeepsSides (names : Names) (s : HubState) : Type 0 where
  pub offers : (by : Railway) (n : ℕ) → OfferSide names by n (s.offer by n)
  pub plans : (c : ConsignmentId) → PlanSide names c (s.plan_of c)
  pub units : (u : UnitCode) → UnitSide names u (s.unit_plan u)

none_is : {A : Type 0} (x : A) → Path (Option A) None (Some x) → ⊥
none_is x e = cc

some_is : {A : Type 0} (x y : A) → x ≡ y → Path (Option A) (Some x) (Some y)
some_is x y e = cc

has-right : (ws vs : List ℕ) (w : ℕ) → has vs w ≡ true → has (ws ++ vs) w ≡ true
has-right ws vs w h = list_any-append (λ v. eqb v w) ws vs ∙ or_right _ _ h

-- nothing is looked up at the start
pub sides_at_first : (names : Names) → KeepsSides names new_state
sides_at_first names = record {
  offers = λ by n w h. cc;
  plans = λ c p w e h. absurd (none_is p e);
  units = λ u p w e h. absurd (none_is p e);
}

module _ (names : Names) (s : HubState) (k : KeepsSides names s) (by : Railway) (number : ℕ) where
  counted : (says : Body) → IsOnOneSide names (msg by number says) → (w : ℕ) → has (affected_wagons s (msg by number says) says) w ≡ true → names.wagon w ≡ names.message by number
  counted (body.Plan p) one w h = one.wagons w (has-left p.wagons (map (λ l. l.wagon) p.units) w h)
  counted (body.Movement m) one w h = one.wagons w h
  counted (body.EtiAsk v) one w h = one.wagons w h
  counted (body.LegTime v leg minutes) one w h = one.wagons w h
  counted (body.Offer o) one w h = one.wagons w h
  counted (body.Answer a) one w h =
      elim (or_cases (has (a.received ++ a.refused) w) (has (wagons_of (s.offer a.offerer a.offer)) w) (sym (list_any-append (λ v. eqb v w) (a.received ++ a.refused) (wagons_of (s.offer a.offerer a.offer))) ∙ h)) [
        | inl e ↦ one.wagons w e
        | inr e ↦ k.offers a.offerer a.offer w e ∙ one.offers a.offerer a.offer refl
      ]
  counted (body.Withdraw at n) one w h = k.offers by n w h ∙ one.offers by n refl
  counted (body.Reroute v route) one w h = one.wagons w h

-- a message counts with wagons of its own side
pub counted_side : (names : Names) (s : HubState) → KeepsSides names s → (m : Message) → IsOnOneSide names m → (w : ℕ) → has (affected_wagons s m m.body) w ≡ true → names.wagon w ≡ is_of names m
counted_side names s k m one w h = counted names s k m.by m.no m.body one w h

-- the wagon that a plan loads a unit on is written in it
loaded_choice : (l : UnitLoad) (rest : Option UnitLoad) (wagons : List ℕ) (w : ℕ) (b : Bool) → option_map (λ (x : UnitLoad). x.wagon) (cond b (Some l) rest) ≡ Some w →
    (option_map (λ (x : UnitLoad). x.wagon) rest ≡ Some w → has wagons w ≡ true) → has (l.wagon ∷ wagons) w ≡ true
loaded_choice l rest wagons w true h k = or_left _ _ (subst (λ v. eqb v w ≡ true) (sym (same_Some l.wagon w h)) (eq-eqb w w refl))
loaded_choice l rest wagons w false h k = or_right _ _ (k h)

loaded_written : (units : List UnitLoad) (u : UnitCode) (w : ℕ) → option_map (λ (l : UnitLoad). l.wagon) (find (λ (l : UnitLoad). bytes_eq l.unit u) units) ≡ Some w → has (map (λ (l : UnitLoad). l.wagon) units) w ≡ true
loaded_written [] u w h = absurd (none-some w h)
loaded_written (l ∷ units) u w h =
    loaded_choice l (find (λ (x : UnitLoad). bytes_eq x.unit u) units) (map (λ (x : UnitLoad). x.wagon) units) w (bytes_eq l.unit u) h (loaded_written units u w)

module _ (names : Names) (by : Railway) (number : ℕ) where
  offer_choice : (w : ℕ) (also : Railway) (n : ℕ) (given : Offer) (before : Option Offer) (b : Bool) → same_name by number also n ≡ b → (has given.wagons w ≡ true → names.wagon w ≡ names.message by number) → OfferSide names also n before →
      has (wagons_of (option_or (cond b (Some given) None) before)) w ≡ true → names.wagon w ≡ names.message also n
  offer_choice w also n given before true e k rest h =
      let parts = from_same_name by also number n e in
      k h ∙ ap (λ r. names.message r number) parts.0 ∙ ap (names.message also) parts.1
  offer_choice w also n given before false e k rest h = rest w h

  offer_given-side : (says : Body) → IsOnOneSide names (msg by number says) → (also : Railway) (n : ℕ) (before : Option Offer) → OfferSide names also n before →
      OfferSide names also n (option_or (offer_given (msg by number says) says also n) before)
  offer_given-side (body.Offer o) one also n before rest w h =
      offer_choice w also n (record { by = by; no = number; to = o.to; place = o.place; wagons = o.wagons }) before (same_name by number also n) refl (one.wagons w) rest h
  offer_given-side _ one also n before rest w h = rest w h

  plan_choice : (q : Trip) (c : ConsignmentId) (before : Option Trip) (b : Bool) → bytes_eq q.consignment c ≡ b → IsOnOneSide names (msg by number (body.Plan q)) → PlanSide names c before →
      PlanSide names c (option_or (cond b (Some q) None) before)
  plan_choice q c before true e one rest p w f h =
      let same : q ≡ p = same_Some q p f in
      one.wagons w (has-left q.wagons (map (λ l. l.wagon) q.units) w (subst (λ t. has t.wagons w ≡ true) (sym same) h)) ∙
      sym (one.consignments c (some_is q.consignment c ((bytes_eq-Decides q.consignment c).0 e)))
  plan_choice q c before false e one rest p w f h = rest p w f h

  plan_given-side : (says : Body) → IsOnOneSide names (msg by number says) → (c : ConsignmentId) (before : Option Trip) → PlanSide names c before → PlanSide names c (option_or (plan_given says c) before)
  plan_given-side (body.Plan q) one c before rest = plan_choice q c before (bytes_eq q.consignment c) refl one rest
  plan_given-side _ one c before rest = rest

  unit_choice : (q : Trip) (u : UnitCode) (before : Option Trip) (b : Bool) → loads q.units u ≡ b → IsOnOneSide names (msg by number (body.Plan q)) → UnitSide names u before →
      UnitSide names u (option_or (cond b (Some q) None) before)
  unit_choice q u before true e one rest p w f h =
      let same : q ≡ p = same_Some q p f in
      one.wagons w (has-right q.wagons (map (λ l. l.wagon) q.units) w (loaded_written q.units u w (subst (λ t. loaded_on t u ≡ Some w) (sym same) h))) ∙
      sym (one.units u e)
  unit_choice q u before false e one rest p w f h = rest p w f h

  unit_given-side : (says : Body) → IsOnOneSide names (msg by number says) → (u : UnitCode) (before : Option Trip) → UnitSide names u before → UnitSide names u (option_or (unit_plan_given says u) before)
  unit_given-side (body.Plan q) one u before rest = unit_choice q u before (loads q.units u) refl one rest
  unit_given-side _ one u before rest = rest

-- one more message of one side keeps that
pub sides_send : (names : Names) (s : HubState) → KeepsSides names s → (m : Message) → IsOnOneSide names m → KeepsSides names (step s (Send m))
sides_send names s k m one = record {
  offers = λ by n. subst (OfferSide names by n) (sym (step-offer s m by n))
      (cond_both (accepts s m) (option_or (offer_given m m.body by n) (s.offer by n)) (s.offer by n) (OfferSide names by n)
      (λ e. offer_given-side names m.by m.no m.body one by n (s.offer by n) (k.offers by n))
      (λ e. k.offers by n));
  plans = λ c. subst (PlanSide names c) (sym (step-plan_of s m c))
      (cond_both (accepts s m) (option_or (plan_given m.body c) (s.plan_of c)) (s.plan_of c) (PlanSide names c)
      (λ e. plan_given-side names m.by m.no m.body one c (s.plan_of c) (k.plans c))
      (λ e. k.plans c));
  units = λ u. subst (UnitSide names u) (sym (step-unit_plan s m u))
      (cond_both (accepts s m) (option_or (unit_plan_given m.body u) (s.unit_plan u)) (s.unit_plan u) (UnitSide names u)
      (λ e. unit_given-side names m.by m.no m.body one u (s.unit_plan u) (k.units u))
      (λ e. k.units u));
}

-- and so does an acknowledgement
pub sides_ack : (names : Names) (s : HubState) → KeepsSides names s → (by : Railway) (n : ℕ) (reply : Reply) → KeepsSides names (after_call s (Ack by n) reply)
sides_ack names s k by n (Acknowledged i) = record { offers = k.offers; plans = k.plans; units = k.units }
sides_ack names s k by n _ = k
