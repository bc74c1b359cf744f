-- How many items an accepted message makes.
use native.Mathlib.Omega.{arith}
use Rattle.hub_model.proofs.Common.{◌≡◌, ℕ, ◌+◌, ◌*◌, ◌≤◌, suc, sound_journey, List, [], ◌∷◌, ◌++◌, length, drop, mul-suc, Option, Some, None, refl, ap, ◌∙◌, true, Bool, not, eqb, map, filter, flat_map, filter_map, option_map, option_to_list, bytes_eq, option_or, cons_option, range_with_len, cond_both, ltb-false, eq-eqb, length-append, length-map, length-drop, length-range_with_len, length-filter, count_by-le-length, Railway, Leg, has, MovementKind, Release, Departure, YardArrival, YardDeparture, Exception, Estimate, Arrival, Delivery, Message, Body, EstimateAt, ItemBody, Offer, wagons_of, asked_by, Event, Rerouted, leg_index, responsible, journey_state, legs, current_leg, lead_of, runner_of, route_checks, estimate, estimates, passed, same_name, Entry, AddressedItem, HubState, new_state, named_wagons, journey_after, fault, each_once, runners, movement_receivers, route_receivers, notice_receivers, sub_item, sub_items, notices, estimate_item, is_news, estimate_items, alert, alert_receivers, alert_items, items_of, items_to, after_acceptance, offer_given, state_of, IsLegal, HasFewLegs, HasFewWagons, IsWithinLimits, AreWithinLimits, ItemsAreFew, OutboxesAreBounded}
use Rattle.taf_messages.specs.declared.message.Body.TheVariants as body
use Rattle.taf_messages.specs.declared.item.ItemBody.TheVariants as item
use Rattle.hub_model.proofs.NoFaultLemmas.{no_known_fault, known_allowed, msg}
use Rattle.hub_model.proofs.JourneyLengthLemmas.{IsTrackState, kept_from}
use Rattle.hub_model.proofs.GrowthLemmas.{grown_from}
use Rattle.hub_model.proofs.AdmittedLemmas.{IsAdmitted, AllAdmitted, kept_admitted, admitted_nothing}

-- lengths of lists that are made of others
few_filter : {A : Type 0} (p : A → Bool) (xs : List A) → length (filter p xs) ≤ length xs
few_filter p xs = rw (length-filter p xs) (count_by-le-length p xs)

few_option : {A : Type 0} (o : Option A) → length (option_to_list o) ≤ 1
few_option None = omega arith
few_option (Some x) = omega arith

few_cons_option : {A : Type 0} (o : Option A) (xs : List A) → length (cons_option o xs) ≤ suc (length xs)
few_cons_option None xs = omega arith
few_cons_option (Some x) xs = omega arith

few_filter_map : {A B : Type 0} (f : A → Option B) (xs : List A) → length (filter_map f xs) ≤ length xs
few_filter_map f [] = omega arith
few_filter_map f (x ∷ xs) = let h = few_filter_map f xs in let g = few_cons_option (f x) (filter_map f xs) in omega arith

few_once : (rs : List Railway) → length (each_once rs) ≤ length rs
few_once [] = omega arith
few_once (r ∷ rs) = let h = few_once rs in let g = few_filter (λ q. not (bytes_eq q r)) (each_once rs) in omega arith

few_each : {A B : Type 0} (f : A → List B) (k : ℕ) → ((x : A) → length (f x) ≤ k) → (xs : List A) → length (flat_map f xs) ≤ k * length xs
few_each f k each [] = omega arith
few_each f k each (x ∷ xs) =
    let h = few_each f k each xs in
    let one = each x in
    let l = length-append (f x) (flat_map f xs) in
    let e = mul-suc k (length xs) in
    rw l (omega arith)

-- a wagon has at most eight legs, and at most eight estimates
few_legs : (events : List Event) → IsAdmitted events → length (legs events) ≤ 8
few_legs [] a = omega arith
few_legs (e ∷ events) a = (sound_journey (e ∷ events) (a refl)).few_legs

few_estimates : (events : List Event) → length (estimates events) ≤ length (legs events)
few_estimates events =
    let r = length-range_with_len 0 (length (legs events)) in
    let h : length (estimates events) ≤ length (range_with_len 0 (length (legs events))) =
    few_filter_map (λ j. option_map (λ at. record { leg = j; at = at }) (estimate events j)) (range_with_len 0 (length (legs events))) in
    omega arith

-- each estimate makes at most one item
few_to : {A : Type 0} (f : Railway → A) (o : Option Railway) → length (map f (option_to_list o)) ≤ 1
few_to f o = rw (length-map (option_to_list o) f) (few_option o)

one_item : (events : List Event) (w : ℕ) (e : EstimateAt) → length (estimate_item events w e) ≤ 1
one_item events w e =
    cond_both (eqb (e.leg + 1) (length (legs events))) _ _ (λ xs. length xs ≤ 1)
    (λ h. few_to _ (lead_of events))
    (λ h. few_to _ (runner_of events (e.leg + 1)))

few_estimate_items : (before after : List Event) (w : ℕ) → IsAdmitted after → length (estimate_items before after w) ≤ 8
few_estimate_items before after w u =
    let a = few_each (estimate_item after w) 1 (one_item after w) (filter (is_news before after) (estimates after)) in
    let b = few_filter (is_news before after) (estimates after) in
    let c = few_estimates after in
    let d = few_legs after u in
    omega arith

-- an alert makes at most two
few_alerted : (events : List Event) → length (alert_receivers events) ≤ 2
few_alerted events =
    let a = few_once (option_to_list (lead_of events) ++ option_to_list (responsible events)) in
    let b = length-append (option_to_list (lead_of events)) (option_to_list (responsible events)) in
    let c = few_option (lead_of events) in
    let d = few_option (responsible events) in
    omega arith

few_alert_items : (before after : List Event) (w : ℕ) → length (alert_items before after w) ≤ 2
few_alert_items before after w =
    let f : ItemBody → List AddressedItem = λ says. map (λ r. record { to = r; body = says }) (alert_receivers after) in
    let each : (says : ItemBody) → length (f says) ≤ 2 = λ says. rw (length-map {B = AddressedItem} (alert_receivers after) (λ r. record { to = r; body = says })) (few_alerted after) in
    let a = few_each f 2 each (option_to_list (alert before after w)) in
    let b = few_option (alert before after w) in
    omega arith

-- the railways that get the notice
few_told : (after : List Event) (what : MovementKind) → length (movement_receivers after what) ≤ 1
few_told after Release = few_option (runner_of after 0)
few_told after Departure = few_option (lead_of after)
few_told after (YardArrival place) = few_option (lead_of after)
few_told after (YardDeparture place) = few_option (lead_of after)
few_told after (Exception delay) = few_option (lead_of after)
few_told after Estimate = omega arith
few_told after Arrival = few_option (lead_of after)
few_told after Delivery = few_option (lead_of after)

few_told_of_route : (before : List Event) (route : List Leg) → IsAdmitted before → length route ≤ 8 → length (route_receivers before route) ≤ 17
few_told_of_route before route u h =
    let rest = drop (leg_index before + 1) (legs before) in
    let near = option_to_list (current_leg before) in
    let all : length (route_receivers before route) ≡ (length (runners near) + length (runners rest)) + length (runners route) =
    length-append (runners near ++ runners rest) (runners route) ∙ ap (λ n. n + length (runners route)) (length-append (runners near) (runners rest)) in
    let a : length (runners near) ≡ length near = length-map near (λ l. l.ru) in
    let b : length (runners rest) ≡ length rest = length-map rest (λ l. l.ru) in
    let c : length (runners route) ≡ length route = length-map route (λ l. l.ru) in
    let d = few_option (current_leg before) in
    let e = length-drop (leg_index before + 1) (legs before) in
    let f = few_legs before u in
    omega arith

named_alone : (w : ℕ) → has (w ∷ []) w ≡ true
named_alone w = rw (eq-eqb w w refl) refl

-- what an accepted message needs
pub record AreFew (s : HubState) : Type 0 where
  pub admitted : AllAdmitted s
  pub offers : (by : Railway) (n : ℕ) → length (wagons_of (s.offer by n)) ≤ 60

module _ (s : HubState) (few : AreFew s) (by : Railway) (number : ℕ) where
  few_notified : (says : Body) → HasFewLegs says → HasFewWagons says → fault s (msg by number says) ≡ None → (after : ℕ → List Event) → length (notice_receivers s after by says) ≤ 121
  few_notified (body.Plan p) l d f after = let h : length (runners p.legs) ≡ length p.legs = length-map p.legs (λ k. k.ru) in let g = l.1 in omega arith
  few_notified (body.Movement m) l d f after = let h = few_told (after m.wagon) m.what in omega arith
  few_notified (body.EtiAsk w) l d f after = let h = few_option (responsible (after w)) in omega arith
  few_notified (body.LegTime w leg minutes) l d f after = omega arith
  few_notified (body.Offer o) l d f after = omega arith
  few_notified (body.Answer a) l d f after =
      let h = few_filter_map (λ w. lead_of (after w)) (a.received ++ a.refused) in
      let g = length-append a.received a.refused in
      let i = d.0 in
      let j = d.1 in
      omega arith
  few_notified (body.Withdraw at n) l d f after = let h = few_option (asked_by (s.offer by n)) in omega arith
  few_notified (body.Reroute w route) l d f after =
      let known = no_known_fault s by number (body.Reroute w route) w tt f (named_alone w) in
      let c = passed (route_checks (journey_state (s.journey w)) by route) (known_allowed (s.journey w) by (Rerouted route) known) in
      let h = ltb-false 8 (leg_index (s.journey w) + 1 + length route) c.1.1.1.1.0 in
      let u = few.admitted.each w in
      let g = few_told_of_route (s.journey w) route u (omega arith) in
      omega arith

  few_sub : (says : Body) → length (sub_items by says) ≤ 1
  few_sub (body.Answer a) = cond_both (eqb (length a.received) 0) [] _ (λ xs. length xs ≤ 1) (λ h. omega arith) (λ h. few_to (sub_item by a) a.manager)
  few_sub (body.Plan p) = omega arith
  few_sub (body.Movement m) = omega arith
  few_sub (body.EtiAsk w) = omega arith
  few_sub (body.LegTime w leg minutes) = omega arith
  few_sub (body.Offer o) = omega arith
  few_sub (body.Withdraw at n) = omega arith
  few_sub (body.Reroute w route) = omega arith

  few_named : (says : Body) → HasFewWagons says → length (named_wagons s.offer (msg by number says)) ≤ 120
  few_named (body.Plan p) d = omega arith
  few_named (body.Movement m) d = omega arith
  few_named (body.EtiAsk w) d = omega arith
  few_named (body.LegTime w leg minutes) d = omega arith
  few_named (body.Offer o) d = omega arith
  few_named (body.Answer a) d = let h = length-append a.received a.refused in let i = d.0 in let j = d.1 in omega arith
  few_named (body.Withdraw at n) d = let h = few.offers by n in omega arith
  few_named (body.Reroute w route) d = omega arith

  few_notices : (says : Body) → HasFewLegs says → HasFewWagons says → fault s (msg by number says) ≡ None → length (notices s (msg by number says)) ≤ 122
  few_notices says l d f =
      let m = msg by number says in
      let rs = notice_receivers s (journey_after s m) by says in
      let a = length-append (map (λ r. record { to = r; body = item.Notice m }) (each_once rs)) (sub_items by says) in
      let b = length-map {B = AddressedItem} (each_once rs) (λ r. record { to = r; body = item.Notice m }) in
      let c = few_once rs in
      let e = few_notified says l d f (journey_after s m) in
      let g = few_sub says in
      omega arith

  few_items : (says : Body) → HasFewLegs says → HasFewWagons says → fault s (msg by number says) ≡ None → length (items_of s (msg by number says)) ≤ 1322
  few_items says l d f =
      let m = msg by number says in
      let ws = named_wagons s.offer m in
      let e : ℕ → List AddressedItem = λ w. estimate_items (s.journey w) (journey_after s m w) w in
      let i : ℕ → List AddressedItem = λ w. alert_items (s.journey w) (journey_after s m w) w in
      let all = kept_admitted.accepts s m (l, d) f few.admitted in
      let a = few_notices says l d f in
      let b = few_each e 8 (λ w. few_estimate_items (s.journey w) (journey_after s m w) w (all.each w)) ws in
      let c = few_each i 2 (λ w. few_alert_items (s.journey w) (journey_after s m w) w) ws in
      let g = few_named says d in
      let h = few_filter (λ k. not (bytes_eq k.to by)) ((notices s m ++ flat_map e ws) ++ flat_map i ws) in
      let j = length-append (notices s m ++ flat_map e ws) (flat_map i ws) in
      let k = length-append (notices s m) (flat_map e ws) in
      omega arith

-- an offer has at most 60 wagons
few_given : (given before : Option Offer) → length (wagons_of given) ≤ 60 → length (wagons_of before) ≤ 60 → length (wagons_of (option_or given before)) ≤ 60
few_given None before g h = h
few_given (Some o) before g h = g

offer_few : (m : Message) (says : Body) → HasFewWagons says → (by : Railway) (n : ℕ) → length (wagons_of (offer_given m says by n)) ≤ 60
offer_few m (body.Offer o) d by n = cond_both (same_name m.by m.no by n) _ None (λ o. length (wagons_of o) ≤ 60) (λ h. d) (λ h. omega arith)
offer_few m (body.Plan p) d by n = omega arith
offer_few m (body.Movement v) d by n = omega arith
offer_few m (body.EtiAsk w) d by n = omega arith
offer_few m (body.LegTime w leg minutes) d by n = omega arith
offer_few m (body.Answer a) d by n = omega arith
offer_few m (body.Withdraw at k) d by n = omega arith
offer_few m (body.Reroute w route) d by n = omega arith

kept_few : IsTrackState IsWithinLimits AreFew
kept_few = record {
  accepts = λ s m d f few. record {
    admitted = kept_admitted.accepts s m d f few.admitted;
    offers = λ by n. few_given (offer_given m m.body by n) (s.offer by n) (offer_few m m.body d.1 by n) (few.offers by n);
  };
  notes = λ s m reply few. record { admitted = kept_admitted.notes s m reply few.admitted; offers = few.offers };
  acks = λ s by n few. record { admitted = kept_admitted.acks s by n few.admitted; offers = few.offers };
}

few_nothing : AreFew new_state
few_nothing = record { admitted = admitted_nothing; offers = λ by n. omega arith }

always_few : (history : List Entry) → IsLegal history → AreWithinLimits history → AreFew (state_of history)
always_few history legal d = kept_from IsWithinLimits AreFew kept_few new_state history legal d few_nothing

pub items_are_few : ItemsAreFew
items_are_few history m legal d limits f = few_items (state_of history) (always_few history legal d) m.by m.no m.body limits.0 limits.1 f

-- an outbox grows by the items of a message at most
few_more : (s : HubState) (m : Message) (r : Railway) → IsWithinLimits m → fault s m ≡ None → AreFew s → length ((after_acceptance s m).outbox r) ≤ length (s.outbox r) + 1322
few_more s m r d f few =
    let a = length-append (s.outbox r) (items_to r (items_of s m)) in
    let b : length (items_to r (items_of s m)) ≡ length (filter (λ i. bytes_eq i.to r) (items_of s m)) = length-map (filter (λ i. bytes_eq i.to r) (items_of s m)) (λ i. i.body) in
    let c = few_filter (λ i. bytes_eq i.to r) (items_of s m) in
    let e = few_items s few m.by m.no m.body d.0 d.1 f in
    omega arith

pub outboxes_are_bounded : OutboxesAreBounded
outboxes_are_bounded history r legal d =
    let h = grown_from IsWithinLimits AreFew kept_few (λ s. length (s.outbox r)) 1322 (λ s m limits f few. few_more s m r limits f few) (λ s m reply. refl) (λ s by n. refl) new_state history legal d few_nothing in
    omega arith
