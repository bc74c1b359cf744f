-- The tables once a plan is entered.
use Rattle.hub_tables.proofs.Common.{◌≡◌, ℕ, ◌||◌, Bool, true, false, cond, List, [], ◌∷◌, map, Option, Some, None, IfSome, refl, sym, ap, subst, ◌∙◌, if◌then◌else◌, nat_eq, bytes_eq, list_any, option_or, lookup, keys_of, update_all, eqb-true, UnitCode, ConsignmentId, Trip, has, loads, Message, Body, Journey, is_plan, insert_all, wagons_in, event_for, event_body_for, with_event, journey_after, plan_given, unit_plan_given, planned_in, fleet_after, planned_anew, TableEntries, events_in, table_state, IsJourneyEntry, AreJourneyEntries}
use Rattle.taf_messages.specs.declared.message.Body.TheVariants as body
use Rattle.hub_tables.proofs.EntryLemmas.{of_journey}
use Rattle.hub_tables.proofs.FleetLemmas.{fleet_entered}

last_given : {V : Type 0} (b any : Bool) (value v : V) (before : Option V) → (b ≡ true → value ≡ v) → cond any (Some v) (cond b (Some value) before) ≡ cond (b || any) (Some v) before
last_given true true value v before h = refl
last_given true false value v before h = ap (λ x. Some x) (h refl)
last_given false true value v before h = refl
last_given false false value v before h = refl

-- what a key has once each of these is put under its key
pub given_all : {K X V : Type 0} (eq : K → K → Bool) (key : X → K) (value : X → V) (q : K) (v : V) → ((x : X) → eq (key x) q ≡ true → value x ≡ v) → (xs : List X) (before : K → Option V) →
    update_all eq before (map (λ x. (key x, value x)) xs) q ≡ cond (list_any (λ x. eq (key x) q) xs) (Some v) (before q)
given_all eq key value q v h [] before = refl
given_all eq key value q v h (x ∷ xs) before =
    given_all eq key value q v h xs (λ k. cond (eq (key x) k) (Some (value x)) (before k)) ∙
    last_given (eq (key x) q) (list_any (λ y. eq (key y) q) xs) (value x) v (before q) (h x)

-- what is given, else what was before
pub given_else : {V : Type 0} (b : Bool) (v : V) (before : Option V) → cond b (Some v) before ≡ option_or (if b then Some v else None) before
given_else true v before = refl
given_else false v before = refl

module _ (old : TableEntries) (m : Message) (p : Trip) (is : m.body ≡ body.Plan p) where
  abbrev pub begun : ℕ → Journey
  begun w = record { wagon = w; events = event_for (table_state old).offer m w ∷ [] }

  abbrev pub IsEntered : List (ℕ × Journey) → Type 0
  IsEntered wagons = (q : ℕ) → lookup (nat_eq q) wagons ≡ update_all nat_eq (λ k. lookup (nat_eq k) old.wagons) (map (λ w. (w, begun w)) p.wagons) q

  wagon_entered : (wagons : List (ℕ × Journey)) → IsEntered wagons → (q : ℕ) → lookup (nat_eq q) wagons ≡ cond (has p.wagons q) (Some (begun q)) (lookup (nat_eq q) old.wagons)
  wagon_entered wagons h q =
      h q ∙ given_all nat_eq (λ (w : ℕ). w) begun q (begun q) (λ w same. ap begun (eqb-true w q same)) p.wagons (λ k. lookup (nat_eq k) old.wagons)

  events_by : (q : ℕ) (b : Bool) → of_journey (cond b (Some (begun q)) (lookup (nat_eq q) old.wagons)) ≡
      (if b then with_event ((table_state old).journey q) (event_for (table_state old).offer m q) else (table_state old).journey q)
  events_by q true = sym (planned_anew ((table_state old).journey q) (event_for (table_state old).offer m q) (ap (λ (says : Body). is_plan (event_body_for (table_state old).offer m.by says q)) is))
  events_by q false = refl

  -- the plan begins the journeys of its wagons, and leaves the others
  pub events_entered : (wagons : List (ℕ × Journey)) → IsEntered wagons → (q : ℕ) → events_in wagons q ≡ journey_after (table_state old) m q
  events_entered wagons h q =
      ap of_journey (wagon_entered wagons h q) ∙ events_by q (has p.wagons q) ∙
      ap (λ (says : Body). if has (wagons_in (table_state old).offer m.by says) q then with_event ((table_state old).journey q) (event_for (table_state old).offer m q) else (table_state old).journey q) (sym is)

  entry_by : AreJourneyEntries old.wagons → (q : ℕ) (b : Bool) → IfSome (cond b (Some (begun q)) (lookup (nat_eq q) old.wagons)) (IsJourneyEntry q)
  entry_by journeys q true = record { wagon = refl; begun = refl }
  entry_by journeys q false = journeys q

  pub entries_entered : (wagons : List (ℕ × Journey)) → IsEntered wagons → AreJourneyEntries old.wagons → AreJourneyEntries wagons
  entries_entered wagons h journeys q = subst (λ (o : Option Journey). IfSome o (IsJourneyEntry q)) (sym (wagon_entered wagons h q)) (entry_by journeys q (has p.wagons q))

  pub keys_entered : (wagons : List (ℕ × Journey)) → wagons ≡ insert_all nat_eq old.wagons (map (λ w. (w, begun w)) p.wagons) → keys_of wagons ≡ fleet_after (keys_of old.wagons) (planned_in m.body)
  keys_entered wagons h = ap keys_of h ∙ fleet_entered begun p.wagons old.wagons ∙ ap (λ (says : Body). fleet_after (keys_of old.wagons) (planned_in says)) (sym is)

  pub plan_entered : (plans : List (ConsignmentId × Trip)) (c : ConsignmentId) → lookup (bytes_eq c) plans ≡ cond (bytes_eq p.consignment c) (Some p) (lookup (bytes_eq c) old.plans) →
      lookup (bytes_eq c) plans ≡ option_or (plan_given m.body c) (lookup (bytes_eq c) old.plans)
  plan_entered plans c h =
      h ∙ given_else (bytes_eq p.consignment c) p (lookup (bytes_eq c) old.plans) ∙ ap (λ (says : Body). option_or (plan_given says c) (lookup (bytes_eq c) old.plans)) (sym is)

  pub unit_entered : (units : List (UnitCode × Trip)) (u : UnitCode) → lookup (bytes_eq u) units ≡ update_all bytes_eq (λ k. lookup (bytes_eq k) old.units) (map (λ l. (l.unit, p)) p.units) u →
      lookup (bytes_eq u) units ≡ option_or (unit_plan_given m.body u) (lookup (bytes_eq u) old.units)
  unit_entered units u h =
      h ∙ given_all bytes_eq (λ l. l.unit) (λ l. p) u p (λ l same. refl) p.units (λ k. lookup (bytes_eq k) old.units) ∙
      given_else (loads p.units u) p (lookup (bytes_eq u) old.units) ∙
      ap (λ (says : Body). option_or (unit_plan_given says u) (lookup (bytes_eq u) old.units)) (sym is)
