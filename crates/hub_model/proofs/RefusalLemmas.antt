-- What a refusal tells a railway that is not involved in the wagon.
use native.Mathlib.Omega.{arith}
use Rattle.hub_model.proofs.Common.{◌≡◌, ℕ, Bool, true, false, cond, not, zero, suc, List, [], ◌∷◌, length, drop, Option, Some, None, refl, ap, ◌∙◌, sym, subst, inl, inr, is_some, is_none, slice_get, option_map, option_or, option_eq, list_any, false≢true, not_from_false, false_from_ne_true, none-some, same_Some, Railway, first_of, Leg, Why, UnknownWagon, WrongStage, NotYours, NoSuchLeg, Body, MovementKind, Release, Departure, YardArrival, YardDeparture, Exception, Estimate, Arrival, Delivery, Stage, Event, EventBody, Moved, EstimateAsked, LegTimed, Rerouted, stage, responsible, is_on_its_way, legs, lead_of, runner_of, journey_state, same_stage, is_in, is_lead, is_responsible, runs_leg, checks, refusal, Fault, HubState, fault, is_unknown, IsInvolved, only_wagon, LookAlike, RefusalsTellTheStage}
use Rattle.taf_messages.specs.declared.message.Body.TheVariants as body
use Rattle.taf_messages.specs.declared.record.Stage.TheVariants as stage_is
use Rattle.hub_model.proofs.NoFaultLemmas.{msg}
use Rattle.hub_model.proofs.ResponsibleEventLemmas.{text_is}
use Rattle.hub_model.proofs.InvolvedLemmas.{in_runners}

-- two checks' results that refuse alike
pub record RefusesAlike (a b : Option Why) : Type 0 where
  pub same : a ≡ b
  pub refused : is_some a ≡ true

-- where the second check applies, the first two decide
decided : {A : Type 0} (b c : Bool) (x y : A) (rest : List (Bool × A)) → c ≡ true → first_of ((b, x) ∷ (c, y) ∷ rest) ≡ Some (cond b x y)
decided true c x y rest h = refl
decided false c x y rest h = ap (λ d. cond d (Some y) (first_of rest)) h

alike : (b d c e : Bool) (x y : Why) (rest more : List (Bool × Why)) → b ≡ d → c ≡ true → e ≡ true → RefusesAlike (first_of ((b, x) ∷ (c, y) ∷ rest)) (first_of ((d, x) ∷ (e, y) ∷ more))
alike b d c e x y rest more same h k = record {
  same = decided b c x y rest h ∙ ap (λ a. Some (cond a x y)) same ∙ sym (decided d e x y more k);
  refused = ap is_some (decided b c x y rest h);
}

-- a railway that is not involved is neither lead nor responsible, and runs no leg
module _ (events : List Event) (by : Railway) (out : IsInvolved events by → ⊥) where
  not_lead : not (is_lead (journey_state events) by) ≡ true
  not_lead = not_from_false _ (false_from_ne_true (is_lead (journey_state events) by) (λ h. out (inl (inl (text_is (lead_of events) by h)))))

  not_responsible : not (is_responsible (journey_state events) by) ≡ true
  not_responsible = not_from_false _ (false_from_ne_true (is_responsible (journey_state events) by) (λ h. out (inr (text_is (responsible events) by h))))

  not_runner : (i : ℕ) → not (runs_leg (journey_state events) i by) ≡ true
  not_runner i =
      not_from_false _ (false_from_ne_true (runs_leg (journey_state events) i by) (λ h. out (inl (inr (in_runners (legs events) i by (text_is (runner_of events i) by h))))))

-- lists of as many legs have the same places
none_alike : (ls ks : List Leg) (i : ℕ) → length ls ≡ length ks → is_none (slice_get ls i) ≡ is_none (slice_get ks i)
none_alike [] [] i h = refl
none_alike [] (k ∷ ks) i h = absurd (omega arith)
none_alike (l ∷ ls) [] i h = absurd (omega arith)
none_alike (l ∷ ls) (k ∷ ks) zero h = refl
none_alike (l ∷ ls) (k ∷ ks) (suc i) h = let e : length ls ≡ length ks = omega arith in none_alike ls ks i e

in_alike : (d e : List Event) (stages : List Stage) → stage d ≡ stage e → not (is_in (journey_state d) stages) ≡ not (is_in (journey_state e) stages)
in_alike d e stages h = ap (λ o. not (list_any (λ x. option_eq same_stage o (Some x)) stages)) h

module _ (d e : List Event) (by : Railway) (out : IsInvolved d by → ⊥) (also : IsInvolved e by → ⊥) (look : LookAlike d e) where
  abbrev rest : List Event → EventBody → List (Bool × Why)
  rest events says = drop 2 (checks (journey_state events) by says)

  stage_then_lead : (stages : List Stage) (says : EventBody) →
      RefusesAlike (first_of ((not (is_in (journey_state d) stages), WrongStage) ∷ (not (is_lead (journey_state d) by), NotYours) ∷ rest d says)) (first_of ((not (is_in (journey_state e) stages), WrongStage) ∷ (not (is_lead (journey_state e) by), NotYours) ∷ rest e says))
  stage_then_lead stages says = alike _ _ _ _ WrongStage NotYours (rest d says) (rest e says) (in_alike d e stages look.in_stage) (not_lead d by out) (not_lead e by also)

  stage_then_responsible : (stages : List Stage) (says : EventBody) →
      RefusesAlike (first_of ((not (is_in (journey_state d) stages), WrongStage) ∷ (not (is_responsible (journey_state d) by), NotYours) ∷ rest d says)) (first_of ((not (is_in (journey_state e) stages), WrongStage) ∷ (not (is_responsible (journey_state e) by), NotYours) ∷ rest e says))
  stage_then_responsible stages says = alike _ _ _ _ WrongStage NotYours (rest d says) (rest e says) (in_alike d e stages look.in_stage) (not_responsible d by out) (not_responsible e by also)

  on_way_then_responsible : (says : EventBody) →
      RefusesAlike (first_of ((not (is_on_its_way d), WrongStage) ∷ (not (is_responsible (journey_state d) by), NotYours) ∷ rest d says)) (first_of ((not (is_on_its_way e), WrongStage) ∷ (not (is_responsible (journey_state e) by), NotYours) ∷ rest e says))
  on_way_then_responsible says = alike _ _ _ _ WrongStage NotYours (rest d says) (rest e says) (ap not look.on_its_way) (not_responsible d by out) (not_responsible e by also)

  movement_alike : (what : MovementKind) → RefusesAlike (refusal d by (Moved what)) (refusal e by (Moved what))
  movement_alike Release = stage_then_lead (stage_is.Planned ∷ []) (Moved Release)
  movement_alike Departure =
      alike _ _ _ _ WrongStage NotYours (rest d (Moved Departure)) (rest e (Moved Departure)) (in_alike d e (stage_is.Released ∷ []) look.in_stage) (not_runner d by out 0) (not_runner e by also 0)
  movement_alike (YardArrival place) = stage_then_responsible (stage_is.Running ∷ []) (Moved (YardArrival place))
  movement_alike (YardDeparture place) = stage_then_responsible (stage_is.InYard ∷ []) (Moved (YardDeparture place))
  movement_alike (Exception delay) = on_way_then_responsible (Moved (Exception delay))
  movement_alike Estimate = on_way_then_responsible (Moved Estimate)
  movement_alike Arrival = stage_then_responsible (stage_is.Running ∷ stage_is.InYard ∷ []) (Moved Arrival)
  movement_alike Delivery = stage_then_responsible (stage_is.Arrived ∷ []) (Moved Delivery)

  asked_alike : RefusesAlike (refusal d by EstimateAsked) (refusal e by EstimateAsked)
  asked_alike = alike _ _ _ _ WrongStage NotYours (rest d EstimateAsked) (rest e EstimateAsked) (ap not look.on_its_way) (not_lead d by out) (not_lead e by also)

  timed_alike : (i minutes : ℕ) → RefusesAlike (refusal d by (LegTimed i minutes)) (refusal e by (LegTimed i minutes))
  timed_alike i minutes =
      alike _ _ _ _ NoSuchLeg NotYours (rest d (LegTimed i minutes)) (rest e (LegTimed i minutes)) (none_alike (legs d) (legs e) i look.as_many) (not_runner d by out i) (not_runner e by also i)

  rerouted_alike : (route : List Leg) → RefusesAlike (refusal d by (Rerouted route)) (refusal e by (Rerouted route))
  rerouted_alike route = stage_then_lead (stage_is.Planned ∷ stage_is.Released ∷ stage_is.Running ∷ stage_is.InYard ∷ []) (Rerouted route)

-- an unknown wagon comes first, and the calendar after these
known_alike : (u v : Bool) (a b : Option Why) → u ≡ v → RefusesAlike a b → RefusesAlike (cond u (Some UnknownWagon) a) (cond v (Some UnknownWagon) b)
known_alike true true a b h r = record { same = refl; refused = refl }
known_alike false false a b h r = r
known_alike true false a b h r = absurd (false≢true (sym h))
known_alike false true a b h r = absurd (false≢true h)

abbrev at_wagon : ℕ → Option Why → Option Fault
at_wagon w why = option_or (option_or (option_map (λ y. record { why = y; wagon = Some w }) why) None) None

at_wagon_alike : (w : ℕ) (a b x y : Option Why) → RefusesAlike a b → (is_some (at_wagon w (option_or a x)) ≡ true) × (at_wagon w (option_or a x) ≡ at_wagon w (option_or b y))
at_wagon_alike w None b x y r = absurd (false≢true r.refused)
at_wagon_alike w (Some z) b x y r = (refl, ap (λ o. at_wagon w (option_or o y)) r.same)

module _ (s t : HubState) (by : Railway) (number : ℕ) (w : ℕ) (out : IsInvolved (s.journey w) by → ⊥) (also : IsInvolved (t.journey w) by → ⊥) (look : LookAlike (s.journey w) (t.journey w)) where
  abbrev Tells : Body → Type 0
  Tells says = (is_some (fault s (msg by number says)) ≡ true) × (fault s (msg by number says) ≡ fault t (msg by number says))

  one_wagon : (a b x y : Option Why) → RefusesAlike a b →
      (is_some (at_wagon w (option_or (cond (is_unknown (s.journey w)) (Some UnknownWagon) a) x)) ≡ true) ×
      (at_wagon w (option_or (cond (is_unknown (s.journey w)) (Some UnknownWagon) a) x) ≡ at_wagon w (option_or (cond (is_unknown (t.journey w)) (Some UnknownWagon) b) y))
  one_wagon a b x y r = at_wagon_alike w _ _ x y (known_alike (is_unknown (s.journey w)) (is_unknown (t.journey w)) a b look.known r)

  moved_tells : (at : ℕ) (what : MovementKind) → Tells (body.Movement (record { wagon = w; at = at; what = what }))
  moved_tells at what = one_wagon _ _ _ _ (movement_alike (s.journey w) (t.journey w) by out also look what)

  asked_tells : Tells (body.EtiAsk w)
  asked_tells = one_wagon _ _ _ _ (asked_alike (s.journey w) (t.journey w) by out also look)

  timed_tells : (i minutes : ℕ) → Tells (body.LegTime w i minutes)
  timed_tells i minutes = one_wagon _ _ _ _ (timed_alike (s.journey w) (t.journey w) by out also look i minutes)

  rerouted_tells : (route : List Leg) → Tells (body.Reroute w route)
  rerouted_tells route = one_wagon _ _ _ _ (rerouted_alike (s.journey w) (t.journey w) by out also look route)

-- at the wagon of the message
told_at : (s t : HubState) (by : Railway) (number : ℕ) (says : Body) (w : ℕ) → only_wagon says ≡ Some w → (IsInvolved (s.journey w) by → ⊥) → (IsInvolved (t.journey w) by → ⊥) →
    LookAlike (s.journey w) (t.journey w) → (is_some (fault s (msg by number says)) ≡ true) × (fault s (msg by number says) ≡ fault t (msg by number says))
told_at s t by number (body.Movement v) w h out also look =
    let e : w ≡ v.wagon = sym (same_Some v.wagon w h) in
    moved_tells s t by number v.wagon (subst (λ x. IsInvolved (s.journey x) by → ⊥) e out) (subst (λ x. IsInvolved (t.journey x) by → ⊥) e also) (subst (λ x. LookAlike (s.journey x) (t.journey x)) e look) v.at v.what
told_at s t by number (body.EtiAsk v) w h out also look =
    let e : w ≡ v = sym (same_Some v w h) in
    asked_tells s t by number v (subst (λ x. IsInvolved (s.journey x) by → ⊥) e out) (subst (λ x. IsInvolved (t.journey x) by → ⊥) e also) (subst (λ x. LookAlike (s.journey x) (t.journey x)) e look)
told_at s t by number (body.LegTime v i minutes) w h out also look =
    let e : w ≡ v = sym (same_Some v w h) in
    timed_tells s t by number v (subst (λ x. IsInvolved (s.journey x) by → ⊥) e out) (subst (λ x. IsInvolved (t.journey x) by → ⊥) e also) (subst (λ x. LookAlike (s.journey x) (t.journey x)) e look) i minutes
told_at s t by number (body.Reroute v route) w h out also look =
    let e : w ≡ v = sym (same_Some v w h) in
    rerouted_tells s t by number v (subst (λ x. IsInvolved (s.journey x) by → ⊥) e out) (subst (λ x. IsInvolved (t.journey x) by → ⊥) e also) (subst (λ x. LookAlike (s.journey x) (t.journey x)) e look) route
told_at s t by number (body.Plan p) w h out also look = absurd (none-some w h)
told_at s t by number (body.Offer o) w h out also look = absurd (none-some w h)
told_at s t by number (body.Answer a) w h out also look = absurd (none-some w h)
told_at s t by number (body.Withdraw at n) w h out also look = absurd (none-some w h)

pub refusals_tell_the_stage : RefusalsTellTheStage
refusals_tell_the_stage s t m w h out also look = told_at s t m.by m.no m.body w h out also look
