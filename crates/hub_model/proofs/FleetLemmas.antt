-- The fleet is each wagon of the accepted plans once.
use Rattle.hub_model.proofs.Common.{◌≡◌, ℕ, Bool, true, false, cond, not, List, [], ◌∷◌, ◌++◌, refl, ap, ◌∙◌, sym, eqb, append-nil, append_assoc, ◌||◌, filter, flat_map, fold, eqb-true, filter-append, flat_map-append, has, Call, Send, Ask, AskUnit, Deviation, Fetch, Ack, Reply, Acknowledged, Message, HubState, new_state, reply_to, after_call, planned_in, each_wagon, fleet_after, step, accepts, accepted_message, accepted_from}
use Rattle.hub_model.proofs.StepLemmas.{step_looked_up}

all_kept : (ws : List ℕ) → filter (λ w. true) ws ≡ ws
all_kept [] = refl
all_kept (w ∷ ws) = ap (λ rest. w ∷ rest) (all_kept ws)

two_cases : (p q : Bool) (w : ℕ) (f : List ℕ → List ℕ) (g h : List ℕ) → (f (w ∷ g) ≡ cond (not p) (w ∷ f g) (f g)) → f g ≡ h → f (cond (not q) (w ∷ g) g) ≡ cond (not (p || q)) (w ∷ h) h
two_cases true true w f g h c e = e
two_cases true false w f g h c e = c ∙ e
two_cases false true w f g h c e = e
two_cases false false w f g h c e = c ∙ ap (λ rest. w ∷ rest) e

-- two sieves are one
pub two_sieves : (p q : ℕ → Bool) (ws : List ℕ) → filter (λ v. not (p v)) (filter (λ v. not (q v)) ws) ≡ filter (λ v. not (p v || q v)) ws
two_sieves p q [] = refl
two_sieves p q (w ∷ ws) =
    two_cases (p w) (q w) w (filter (λ v. not (p v))) (filter (λ v. not (q v)) ws) (filter (λ v. not (p v || q v)) ws) refl (two_sieves p q ws)

-- the wagons of two lists
each-append : (ws vs : List ℕ) → each_wagon (ws ++ vs) ≡ each_wagon ws ++ filter (λ v. not (has ws v)) (each_wagon vs)
each-append [] vs = sym (all_kept (each_wagon vs))
each-append (w ∷ ws) vs =
    ap (λ us. w ∷ filter (λ v. not (eqb w v)) us) (each-append ws vs) ∙
    ap (λ us. w ∷ us) (filter-append (λ v. not (eqb w v)) (each_wagon ws) (filter (λ v. not (has ws v)) (each_wagon vs))) ∙
    ap (λ us. w ∷ filter (λ v. not (eqb w v)) (each_wagon ws) ++ us) (two_sieves (λ v. eqb w v) (has ws) (each_wagon vs))

or_keeps : (a b c : Bool) → (a ≡ false → b ≡ c) → (a || b) ≡ (a || c)
or_keeps true b c e = refl
or_keeps false b c e = e refl

sieved : (w v : ℕ) (u : ℕ) (rest kept : List ℕ) (b : Bool) → eqb w u ≡ b → eqb w v ≡ false → has kept v ≡ has rest v → has (cond (not b) (u ∷ kept) kept) v ≡ (eqb u v || has rest v)
sieved w v u rest kept false e n k = ap (λ x. eqb u v || x) k
sieved w v u rest kept true e n k = k ∙ ap (λ x. x || has rest v) (sym (ap (λ y. eqb y v) (sym (eqb-true w u e)) ∙ n))

-- another wagon passes the sieve
has_sieved : (w v : ℕ) → eqb w v ≡ false → (us : List ℕ) → has (filter (λ u. not (eqb w u)) us) v ≡ has us v
has_sieved w v n [] = refl
has_sieved w v n (u ∷ us) = sieved w v u us (filter (λ x. not (eqb w x)) us) (eqb w u) refl n (has_sieved w v n us)

has_each : (ws : List ℕ) (v : ℕ) → has (each_wagon ws) v ≡ has ws v
has_each [] v = refl
has_each (w ∷ ws) v = or_keeps (eqb w v) _ (has ws v) (λ n. has_sieved w v n (each_wagon ws) ∙ has_each ws v)

fleet-append : (ws vs : List ℕ) → fleet_after (each_wagon ws) vs ≡ each_wagon (ws ++ vs)
fleet-append ws vs =
    let same : has (each_wagon ws) ≡ has ws = λ i v. has_each ws v i in
    ap (λ h. each_wagon ws ++ filter (λ v. not (h v)) (each_wagon vs)) same ∙ sym (each-append ws vs)

abbrev wagons_of_all : List Message → List ℕ
wagons_of_all messages = flat_map (λ m. planned_in m.body) messages

fleet_chosen : (b : Bool) (m : Message) (before : List ℕ) → cond b (fleet_after before (planned_in m.body)) before ≡ fleet_after before (wagons_of_all (cond b (m ∷ []) []))
fleet_chosen true m before = ap (fleet_after before) (sym (append-nil (planned_in m.body)))
fleet_chosen false m before = sym (append-nil before)

acks_fleet : (s : HubState) (by : List ℕ) (k : ℕ) (reply : Reply) → (after_call s (Ack by k) reply).fleet ≡ s.fleet
acks_fleet s by k (Acknowledged n) = refl
acks_fleet s by k _ = refl

fleet_step : (s : HubState) (call : Call) → (step s call).fleet ≡ fleet_after s.fleet (wagons_of_all (accepted_message s call))
fleet_step s (Send m) = step_looked_up (λ t. t.fleet) (λ t n reply. refl) s m ∙ fleet_chosen (accepts s m) m s.fleet
fleet_step s (Ack by k) = acks_fleet s by k (reply_to s (Ack by k)) ∙ sym (append-nil s.fleet)
fleet_step s (Ask by w) = sym (append-nil s.fleet)
fleet_step s (AskUnit by u) = sym (append-nil s.fleet)
fleet_step s (Deviation by c) = sym (append-nil s.fleet)
fleet_step s (Fetch by limit) = sym (append-nil s.fleet)

fleet_all : (s : HubState) (ws : List ℕ) → s.fleet ≡ each_wagon ws → (calls : List Call) → (fold step s calls).fleet ≡ each_wagon (ws ++ wagons_of_all (accepted_from s calls))
fleet_all s ws e [] = e ∙ ap each_wagon (sym (append-nil ws))
fleet_all s ws e (call ∷ calls) =
    fleet_all (step s call) (ws ++ wagons_of_all (accepted_message s call)) (fleet_step s call ∙ ap (λ f. fleet_after f (wagons_of_all (accepted_message s call))) e ∙ fleet-append ws (wagons_of_all (accepted_message s call))) calls ∙
    ap each_wagon
    (append_assoc ws (wagons_of_all (accepted_message s call)) (wagons_of_all (accepted_from (step s call) calls)) ∙
    ap (λ vs. ws ++ vs) (sym (flat_map-append (λ m. planned_in m.body) (accepted_message s call) (accepted_from (step s call) calls))))

pub fleet_list : (calls : List Call) → (fold step new_state calls).fleet ≡ each_wagon (wagons_of_all (accepted_from new_state calls))
fleet_list calls = fleet_all new_state [] refl calls
