-- Records, items and replies reach railways that they concern.
use native.Mathlib.Omega.{arith}
use Rattle.hub_model.proofs.Common.{◌≡◌, ℕ, ◌+◌, zero, suc, take, legs-push, with_event, Rerouted, IsInvolved, estimated_wagon, EstimatesStayOnTheTrip, Bool, true, false, cond, not, List, [], ◌∷◌, ◌++◌, length, drop, Option, Some, None, refl, ap, ◌∙◌, sym, subst, inl, inr, eqb, append_assoc, ◌&&◌, is_some, is_none, map, filter, flat_map, filter_map, slice_get, option_map, option_to_list, option_and_then, bytes_eq, All, Contains, fold, list_any, false≢true, or_cases, cond_both, false_from_ne_true, none-some, same_Some, All-nil, All-cons, All-head, All-tail, All-append, All-map, All-filter, All-weaker, All-contains_itself, Contains-append_right, bytes_eq-Decides, Railway, is_text, Leg, Trip, has, Call, Send, Ask, AskUnit, Deviation, Fetch, Ack, Reply, refused, One, Many, Acknowledged, Why, UnknownWagon, UnknownUnit, UnknownConsignment, NotYours, NumberReused, same_message, ItemBody, Message, Body, MovementKind, Release, Departure, YardArrival, YardDeparture, Exception, Estimate, Arrival, Delivery, Record, Stage, Event, leg_index, responsible, plan, stage, legs, lead_of, runner_of, current_leg, asked_by, record_in, record_of, may_see, AddressedItem, Fault, fault, same_name, HubState, FirstSend, new_state, named_wagons, journey_after, unit_wagon, each_once, runners, movement_receivers, route_receivers, notice_receivers, sub_item, sub_items, notices, estimate_items, alert_items, items_of, items_to, reply_to, refusal_reply, verdict, send_reply, record_reply, unit_reply, deviating_records, deviation_reply, after_call, step, state_after, accepts, accepted_message, items_from, IsOfTrip, RecordsAreForTheTrip, is_verdict, MessagesGetVerdicts, Concerns, ItemsGoToTheConcerned, HasSource, ItemsHaveSources, OutsidersLearnWhetherKnown}
use Rattle.taf_messages.specs.declared.item.ItemBody.TheVariants as item
use Rattle.taf_messages.specs.declared.message.Body.TheVariants as body
use Rattle.hub_model.proofs.ListLemmas.{outbox_list}
use Rattle.hub_model.proofs.NoFaultLemmas.{msg}
use Rattle.hub_model.proofs.StepLemmas.{state_after-push, step-first_send}
use Rattle.hub_model.proofs.ResponsibleEventLemmas.{text_is}
use Rattle.hub_model.proofs.DependencyLemmas.{has_first}
use Rattle.hub_model.proofs.InvolvedLemmas.{in_runners, own_runners, each_option, each_found, each_of_wagons, each_of_once, lead_involved, runner_involved, responsible_involved, IsForInvolved, estimates_involved, alerts_involved}

any_runner : (ls : List Leg) (r : Railway) → list_any (λ l. bytes_eq l.ru r) ls ≡ true → Contains (runners ls) r
any_runner [] r h = absurd (false≢true h)
any_runner (l ∷ ls) r h = elim (or_cases (bytes_eq l.ru r) (list_any (λ k. bytes_eq k.ru r) ls) h) [
  | inl e ↦ in_runners (l ∷ ls) 0 r (ap Some ((bytes_eq-Decides l.ru r).0 e))
  | inr e ↦ Contains-append_right (l.ru ∷ []) (runners ls) r (any_runner ls r e)
]

-- whoever may see a wagon is on its trip
pub of_trip : (events : List Event) (by : Railway) → may_see events by ≡ true → IsOfTrip events by
of_trip events by h = elim (or_cases (is_text (lead_of events) by) (list_any (λ l. bytes_eq l.ru by) (legs events)) h) [
  | inl e ↦ inl (text_is (lead_of events) by e)
  | inr e ↦ inr (any_runner (legs events) by e)
]

-- a record that is shown is that of the wagon, to one who may see it
no_record : (why : Why) (w : Option ℕ) (r : Record) → refusal_reply why w ≡ One r → ⊥
no_record why w r h = cc

seen : (b : Bool) (x r : Record) (why : Why) (w : Option ℕ) → cond b (One x) (refusal_reply why w) ≡ One r → (b ≡ true) × (x ≡ r)
seen true x r why w h = let e : x ≡ r = cc in (refl, e)
seen false x r why w h = absurd (no_record why w r h)

pub shown : (by : Railway) (events : List Event) (o : Option Record) (why also : Why) (w v : Option ℕ) (r : Record) → record_reply by events o (refusal_reply why w) (refusal_reply also v) ≡ One r →
    (may_see events by ≡ true) × (o ≡ Some r)
shown by events None why also w v r h = absurd (no_record why w r h)
shown by events (Some x) why also w v r h = let e = seen (may_see events by) x r also v h in (e.0, ap Some e.1)

pub wagon_in : (w : ℕ) (events : List Event) (p : Option Trip) (st : Option Stage) (r : Record) → option_and_then (λ q. option_map (record_in w events q) st) p ≡ Some r → w ≡ r.wagon
wagon_in w events None st r h = absurd (none-some r h)
wagon_in w events (Some p) None r h = absurd (none-some r h)
wagon_in w events (Some p) (Some st) r h = ap (λ (x : Record). x.wagon) (same_Some (record_in w events p st) r h)

shown_of_trip : (s : HubState) (by : Railway) (w : ℕ) (why also : Why) (u v : Option ℕ) (r : Record) → record_reply by (s.journey w) (record_of w (s.journey w)) (refusal_reply why u) (refusal_reply also v) ≡ One r →
    IsOfTrip (s.journey r.wagon) by
shown_of_trip s by w why also u v r h =
    let e = shown by (s.journey w) (record_of w (s.journey w)) why also u v r h in
    subst (λ x. IsOfTrip (s.journey x) by) (wagon_in w (s.journey w) (plan (s.journey w)) (stage (s.journey w)) r e.1) (of_trip (s.journey w) by e.0)

unit_shown : (s : HubState) (by : Railway) (o : Option ℕ) (r : Record) → unit_reply s by o ≡ One r → IsOfTrip (s.journey r.wagon) by
unit_shown s by None r h = absurd (no_record UnknownUnit None r h)
unit_shown s by (Some w) r h = shown_of_trip s by w UnknownUnit NotYours None None r h

leads : (b : Bool) (rs qs : List Record) → cond b (Many rs) (refusal_reply NotYours None) ≡ Many qs → b ≡ true
leads true rs qs h = refl
leads false rs qs h = cc

lead_shown : (s : HubState) (by : Railway) (o : Option Trip) (rs : List Record) → deviation_reply s by o ≡ Many rs → option_map (λ p. p.lead) o ≡ Some by
lead_shown s by None rs h = cc
lead_shown s by (Some p) rs h = ap Some ((bytes_eq-Decides p.lead by).0 (leads (bytes_eq p.lead by) (deviating_records s p) rs h))

pub records_are_for_the_trip : RecordsAreForTheTrip
records_are_for_the_trip s by = record {
  wagon = λ w r h. shown_of_trip s by w UnknownWagon NotYours (Some w) (Some w) r h;
  unit = λ u r h. unit_shown s by (unit_wagon s u) r h;
  deviations = λ c rs h. lead_shown s by (s.plan_of c) rs h;
}

-- the first reply of each name is a verdict
abbrev FirstVerdicts : HubState → Type 0
FirstVerdicts s = (by : Railway) (n : ℕ) (first : FirstSend) → s.first_send by n ≡ Some first → is_verdict first.reply ≡ true

new_verdict : (number : ℕ) (f : Option Fault) → is_verdict (verdict number f) ≡ true
new_verdict number None = refl
new_verdict number (Some f) = refl

first_verdict : (m : Message) (f : Option Fault) (before : Option FirstSend) (b : Bool) (first : FirstSend) → ((x : FirstSend) → before ≡ Some x → is_verdict x.reply ≡ true) →
    cond b (Some (record { message = m; reply = verdict m.no f })) before ≡ Some first → is_verdict first.reply ≡ true
first_verdict m f before true first k h =
    let new : FirstSend = record { message = m; reply = verdict m.no f } in
    ap (λ (x : FirstSend). is_verdict x.reply) (sym (same_Some new first h)) ∙ new_verdict m.no f
first_verdict m f before false first k h = k first h

acked_verdicts : (s : HubState) → FirstVerdicts s → (by : Railway) (n : ℕ) (reply : Reply) → FirstVerdicts (after_call s (Ack by n) reply)
acked_verdicts s v by n (Acknowledged k) = v
acked_verdicts s v by n _ = v

verdicts_step : (s : HubState) → FirstVerdicts s → (call : Call) → FirstVerdicts (step s call)
verdicts_step s v (Send m) = λ by n first h.
    first_verdict m (fault s m) (s.first_send by n) (is_none (s.first_send m.by m.no) && same_name m.by m.no by n) first (v by n) (sym (step-first_send s m by n) ∙ h)
verdicts_step s v (Ack by n) = acked_verdicts s v by n (reply_to s (Ack by n))
verdicts_step s v (Ask by w) = v
verdicts_step s v (AskUnit by u) = v
verdicts_step s v (Deviation by c) = v
verdicts_step s v (Fetch by limit) = v

verdicts_all : (s : HubState) → FirstVerdicts s → (calls : List Call) → FirstVerdicts (fold step s calls)
verdicts_all s v [] = v
verdicts_all s v (call ∷ calls) = verdicts_all (step s call) (verdicts_step s v call) calls

repeated : (m : Message) (first : FirstSend) (b : Bool) → is_verdict first.reply ≡ true → is_verdict (cond b first.reply (refused (Some m.no) NumberReused None None)) ≡ true
repeated m first true h = h
repeated m first false h = refl

send_verdict : (s : HubState) (m : Message) (o : Option FirstSend) → ((first : FirstSend) → o ≡ Some first → is_verdict first.reply ≡ true) → is_verdict (send_reply s m o) ≡ true
send_verdict s m None v = new_verdict m.no (fault s m)
send_verdict s m (Some first) v = repeated m first (same_message first.message m) (v first refl)

pub messages_get_verdicts : MessagesGetVerdicts
messages_get_verdicts calls m =
    let s = state_after calls in
    send_verdict s m (s.first_send m.by m.no) (verdicts_all new_state (λ by n first h. absurd (none-some first h)) calls m.by m.no)

-- who gets a notice
module _ (s : HubState) (m : Message) where
  abbrev IsConcerned : Railway → Type 0
  IsConcerned r = Concerns s m r

  involved_concerned : (w : ℕ) (r : Railway) → has (named_wagons s.offer m) w ≡ true → IsInvolved (journey_after s m w) r → IsConcerned r
  involved_concerned w r n h = inr (w, n, inl h)

  all_concerned : (w : ℕ) (rs : List Railway) → has (named_wagons s.offer m) w ≡ true → All (IsInvolved (journey_after s m w)) rs → All IsConcerned rs
  all_concerned w rs n all = All-weaker (IsInvolved (journey_after s m w)) IsConcerned (λ r h. involved_concerned w r n h) rs all

  lead_concerned : (w : ℕ) → has (named_wagons s.offer m) w ≡ true → All IsConcerned (option_to_list (lead_of (journey_after s m w)))
  lead_concerned w n = all_concerned w (option_to_list (lead_of (journey_after s m w))) n (lead_involved (journey_after s m w))

  movement_concerned : (w : ℕ) → has (named_wagons s.offer m) w ≡ true → (what : MovementKind) → All IsConcerned (movement_receivers (journey_after s m w) what)
  movement_concerned w n Release = all_concerned w (option_to_list (runner_of (journey_after s m w) 0)) n (runner_involved (journey_after s m w) 0)
  movement_concerned w n Estimate = All-nil IsConcerned
  movement_concerned w n Departure = lead_concerned w n
  movement_concerned w n (YardArrival place) = lead_concerned w n
  movement_concerned w n (YardDeparture place) = lead_concerned w n
  movement_concerned w n (Exception delay) = lead_concerned w n
  movement_concerned w n Arrival = lead_concerned w n
  movement_concerned w n Delivery = lead_concerned w n

-- a route leaves the current leg
kept_before : (ls route : List Leg) (c : ℕ) (l : Leg) → slice_get ls c ≡ Some l → slice_get (take (suc c) ls ++ route) c ≡ Some l
kept_before [] route c l h = absurd (none-some l h)
kept_before (k ∷ ls) route zero l h = h
kept_before (k ∷ ls) route (suc c) l h = kept_before ls route c l h

pub kept_leg : (ls route : List Leg) (c : ℕ) (l : Leg) → slice_get ls c ≡ Some l → slice_get (take (c + 1) ls ++ route) c ≡ Some l
kept_leg ls route c l h =
    let next : suc c ≡ c + 1 = omega arith in
    subst (λ n. slice_get (take n ls ++ route) c ≡ Some l) next (kept_before ls route c l h)

abbrev rerouted : Railway → ℕ → List Leg → Event
rerouted by number route = record { by = by; no = number; at = None; body = Rerouted route }

current_kept : (events : List Event) (by : Railway) (number : ℕ) (route : List Leg) (l : Leg) → current_leg events ≡ Some l →
    runner_of (with_event events (rerouted by number route)) (leg_index events) ≡ Some l.ru
current_kept [] by number route l h = absurd (none-some l h)
current_kept (first ∷ events) by number route l h =
    let before = first ∷ events in
    let c = leg_index before in
    ap (λ ls. option_map (λ (k : Leg). k.ru) (slice_get ls c)) (legs-push before (rerouted by number route)) ∙
    ap (option_map (λ (k : Leg). k.ru)) (kept_leg (legs before) route c l h)

-- a reroute concerns the railways of the current leg, of the legs that it takes away, and of those that it sets
module _ (s : HubState) (by : Railway) (number w : ℕ) (route : List Leg) where
  abbrev reroute : Message
  reroute = msg by number (body.Reroute w route)

  current_concerned : All (λ l. Concerns s reroute l.ru) (option_to_list (current_leg (s.journey w)))
  current_concerned =
      each_option (λ l. Concerns s reroute l.ru) (current_leg (s.journey w))
      (λ l h.
      let after : journey_after s reroute w ≡ with_event (s.journey w) (rerouted by number route) =
      ap (λ b. cond b (with_event (s.journey w) (rerouted by number route)) (s.journey w)) (has_first w []) in
      let runs : runner_of (journey_after s reroute w) (leg_index (s.journey w)) ≡ Some l.ru =
      ap (λ events. runner_of events (leg_index (s.journey w))) after ∙ current_kept (s.journey w) by number route l h in
      involved_concerned s reroute w l.ru (has_first w []) (inl (inr (in_runners (legs (journey_after s reroute w)) (leg_index (s.journey w)) l.ru runs))))

  route_concerned : All (Concerns s reroute) (route_receivers (s.journey w) route)
  route_concerned =
      let near = option_to_list (current_leg (s.journey w)) in
      let rest = drop (leg_index (s.journey w) + 1) (legs (s.journey w)) in
      let taken_off : All (λ l. Concerns s reroute l.ru) rest =
      All-weaker (λ l. Contains (runners rest) l.ru) (λ l. Concerns s reroute l.ru) (λ l h. inr (w, has_first w [], inr h)) rest (own_runners rest) in
      All-append (Concerns s reroute) (runners near ++ runners rest) (runners route)
      (All-append (Concerns s reroute) (runners near) (runners rest)
      (All-map (Concerns s reroute) (λ l. l.ru) near current_concerned)
      (All-map (Concerns s reroute) (λ l. l.ru) rest taken_off))
      (All-weaker (Contains (runners route)) (Concerns s reroute) (λ r h. inl h) (runners route) (All-contains_itself (runners route)))

notified_concerned : (s : HubState) (by : Railway) (number : ℕ) (says : Body) → All (Concerns s (msg by number says)) (notice_receivers s (journey_after s (msg by number says)) by says)
notified_concerned s by number (body.Plan p) =
    let m = msg by number (body.Plan p) in
    All-weaker (Contains (runners p.legs)) (Concerns s m) (λ r h. inl h) (runners p.legs) (All-contains_itself (runners p.legs))
notified_concerned s by number (body.Movement v) =
    movement_concerned s (msg by number (body.Movement v)) v.wagon (has_first v.wagon []) v.what
notified_concerned s by number (body.EtiAsk w) =
    (let m = msg by number (body.EtiAsk w) in
    all_concerned s m w (option_to_list (responsible (journey_after s m w))) (has_first w []) (responsible_involved (journey_after s m w)))
notified_concerned s by number (body.LegTime w leg minutes) = All-nil (Concerns s (msg by number (body.LegTime w leg minutes)))
notified_concerned s by number (body.Offer o) =
    let m = msg by number (body.Offer o) in
    All-cons (Concerns s m) o.to [] (inl refl) (All-nil (Concerns s m))
notified_concerned s by number (body.Answer a) =
    let m = msg by number (body.Answer a) in
    All-cons (Concerns s m) a.offerer (filter_map (λ w. lead_of (journey_after s m w)) (a.received ++ a.refused)) (inl (inl refl))
    (each_found (Concerns s m) (λ w. lead_of (journey_after s m w)) (a.received ++ a.refused) (λ w n r h. involved_concerned s m w r n (inl (inl h))))
notified_concerned s by number (body.Withdraw at n) =
    let m = msg by number (body.Withdraw at n) in
    each_option (Concerns s m) (asked_by (s.offer by n)) (λ r h. inl h)
notified_concerned s by number (body.Reroute w route) = route_concerned s by number w route

sub_concerned : (s : HubState) (by : Railway) (number : ℕ) (says : Body) → All (λ i. Concerns s (msg by number says) i.to) (sub_items by says)
sub_concerned s by number (body.Answer a) =
    let P : AddressedItem → Type 0 = λ i. Concerns s (msg by number (body.Answer a)) i.to in
    cond_both (eqb (length a.received) 0) [] (map (sub_item by a) (option_to_list a.manager)) (All P)
    (λ h. All-nil P)
    (λ h. All-map P (sub_item by a) (option_to_list a.manager) (each_option (λ r. P (sub_item by a r)) a.manager (λ r e. inl (inr e))))
sub_concerned s by number (body.Plan p) = All-nil (λ i. Concerns s (msg by number (body.Plan p)) i.to)
sub_concerned s by number (body.Movement m) = All-nil (λ i. Concerns s (msg by number (body.Movement m)) i.to)
sub_concerned s by number (body.EtiAsk w) = All-nil (λ i. Concerns s (msg by number (body.EtiAsk w)) i.to)
sub_concerned s by number (body.LegTime w leg minutes) = All-nil (λ i. Concerns s (msg by number (body.LegTime w leg minutes)) i.to)
sub_concerned s by number (body.Offer o) = All-nil (λ i. Concerns s (msg by number (body.Offer o)) i.to)
sub_concerned s by number (body.Withdraw at n) = All-nil (λ i. Concerns s (msg by number (body.Withdraw at n)) i.to)
sub_concerned s by number (body.Reroute w route) = All-nil (λ i. Concerns s (msg by number (body.Reroute w route)) i.to)

-- notices and sub notices are of no one wagon
sub_of_none : (by : Railway) (says : Body) → All (λ i. estimated_wagon i.body ≡ None) (sub_items by says)
sub_of_none by (body.Answer a) =
    let P : AddressedItem → Type 0 = λ i. estimated_wagon i.body ≡ None in
    cond_both (eqb (length a.received) 0) [] (map (sub_item by a) (option_to_list a.manager)) (All P)
    (λ h. All-nil P)
    (λ h. All-map P (sub_item by a) (option_to_list a.manager) (each_option (λ r. P (sub_item by a r)) a.manager (λ r e. refl)))
sub_of_none by _ = All-nil (λ i. estimated_wagon i.body ≡ None)

-- what holds of notices, of estimates and of alerts, and does so of each item
module _ (P : AddressedItem → Type 0) (s : HubState) (m : Message)
    (notified : All (λ r. P (record { to = r; body = item.Notice m })) (notice_receivers s (journey_after s m) m.by m.body))
    (sub : All P (sub_items m.by m.body))
    (involved : (w : ℕ) (i : AddressedItem) → has (named_wagons s.offer m) w ≡ true → IsForInvolved (s.journey w) (journey_after s m w) w i → P i) where
  each_item : All P (items_of s m)
  each_item =
      let rs = notice_receivers s (journey_after s m) m.by m.body in
      let notice : Railway → AddressedItem = λ r. record { to = r; body = item.Notice m } in
      let e : ℕ → List AddressedItem = λ w. estimate_items (s.journey w) (journey_after s m w) w in
      let a : ℕ → List AddressedItem = λ w. alert_items (s.journey w) (journey_after s m w) w in
      let ws = named_wagons s.offer m in
      let notices_are : All P (notices s m) =
      All-append P (map notice (each_once rs)) (sub_items m.by m.body) (All-map P notice (each_once rs) (each_of_once (λ r. P (notice r)) rs notified)) sub in
      let estimates_are : All P (flat_map e ws) =
      each_of_wagons P e ws (λ w n. All-weaker (IsForInvolved (s.journey w) (journey_after s m w) w) P (λ i h. involved w i n h) (e w) (estimates_involved (s.journey w) (journey_after s m w) w)) in
      let alerts_are : All P (flat_map a ws) =
      each_of_wagons P a ws (λ w n. All-weaker (IsForInvolved (s.journey w) (journey_after s m w) w) P (λ i h. involved w i n h) (a w) (alerts_involved (s.journey w) (journey_after s m w) w)) in
      All-filter (λ i. not (bytes_eq i.to m.by)) P (notices s m ++ flat_map e ws ++ flat_map a ws)
      (All-append P (notices s m ++ flat_map e ws) (flat_map a ws) (All-append P (notices s m) (flat_map e ws) notices_are estimates_are) alerts_are)

pub items_go_to_the_concerned : ItemsGoToTheConcerned
items_go_to_the_concerned s m =
    each_item (λ i. Concerns s m i.to) s m (notified_concerned s m.by m.no m.body) (sub_concerned s m.by m.no m.body) (λ w i n h. involved_concerned s m w i.to n h.1)

-- each estimate and each alert is for a railway that is involved in its wagon
pub estimates_stay_on_the_trip : EstimatesStayOnTheTrip
estimates_stay_on_the_trip s m =
    let P : AddressedItem → Type 0 = λ i. (w : ℕ) → estimated_wagon i.body ≡ Some w → IsInvolved (journey_after s m w) i.to in
    each_item P s m
    (λ k d h w e. absurd (none-some w e))
    (All-weaker (λ i. estimated_wagon i.body ≡ None) P (λ i h w e. absurd (none-some w (sym h ∙ e))) (sub_items m.by m.body) (sub_of_none m.by m.body))
    (λ w i n h v e. subst (λ x. IsInvolved (journey_after s m x) i.to) (same_Some w v (sym h.0 ∙ e)) h.1)

-- the items that are for one railway
to_railway : (P : Railway → ItemBody → Type 0) (r : Railway) (items : List AddressedItem) → All (λ i. P i.to i.body) items → All (P r) (items_to r items)
to_railway P r [] h = All-nil (P r)
to_railway P r (i ∷ items) h =
    let rest = to_railway P r items (All-tail (λ j. P j.to j.body) i items h) in
    cond_both (bytes_eq i.to r) (i ∷ filter (λ j. bytes_eq j.to r) items) (filter (λ j. bytes_eq j.to r) items) (λ xs. All (P r) (map (λ (j : AddressedItem). j.body) xs))
    (λ e. All-cons (P r) i.body (items_to r items) (subst (λ q. P q i.body) ((bytes_eq-Decides i.to r).0 e) (All-head (λ j. P j.to j.body) i items h)) rest)
    (λ e. rest)

-- those of a call after calls
of_message : (before : List Call) (m : Message) (later : List Call) → accepts (state_after before) m ≡ true →
    All (λ i. HasSource (before ++ Send m ∷ later) i.to i.body) (items_of (state_after before) m)
of_message before m later t =
    let s = state_after before in
    let both : All (λ i. Contains (items_of s m) i × Concerns s m i.to) (items_of s m) = λ k d h. (All-contains_itself (items_of s m) k d h, items_go_to_the_concerned s m k d h) in
    All-weaker (λ i. Contains (items_of s m) i × Concerns s m i.to) (λ i. HasSource (before ++ Send m ∷ later) i.to i.body)
    (λ i h. record { before = before; message = m; later = later; sent = refl; accepted = t; made = h.0; concerned = h.1 })
    (items_of s m) both

of_taken : (before : List Call) (m : Message) (later : List Call) (b : Bool) → accepts (state_after before) m ≡ b →
    All (λ i. HasSource (before ++ Send m ∷ later) i.to i.body) (flat_map (items_of (state_after before)) (cond b (m ∷ []) []))
of_taken before m later true t =
    All-append (λ i. HasSource (before ++ Send m ∷ later) i.to i.body) (items_of (state_after before) m) []
    (of_message before m later t) (All-nil (λ i. HasSource (before ++ Send m ∷ later) i.to i.body))
of_taken before m later false t = All-nil (λ i. HasSource (before ++ Send m ∷ later) i.to i.body)

of_call : (before : List Call) (call : Call) (later : List Call) → All (λ i. HasSource (before ++ call ∷ later) i.to i.body) (flat_map (items_of (state_after before)) (accepted_message (state_after before) call))
of_call before (Send m) later = of_taken before m later (accepts (state_after before) m) refl
of_call before (Ask by w) later = All-nil (λ i. HasSource (before ++ Ask by w ∷ later) i.to i.body)
of_call before (AskUnit by u) later = All-nil (λ i. HasSource (before ++ AskUnit by u ∷ later) i.to i.body)
of_call before (Deviation by c) later = All-nil (λ i. HasSource (before ++ Deviation by c ∷ later) i.to i.body)
of_call before (Fetch by limit) later = All-nil (λ i. HasSource (before ++ Fetch by limit ∷ later) i.to i.body)
of_call before (Ack by n) later = All-nil (λ i. HasSource (before ++ Ack by n ∷ later) i.to i.body)

of_calls : (before calls : List Call) → All (λ i. HasSource (before ++ calls) i.to i.body) (items_from (state_after before) calls)
of_calls before [] = All-nil (λ i. HasSource (before ++ []) i.to i.body)
of_calls before (call ∷ calls) =
    let s = state_after before in
    let P : AddressedItem → Type 0 = λ i. HasSource (before ++ call ∷ calls) i.to i.body in
    let rest : All (λ i. HasSource ((before ++ call ∷ []) ++ calls) i.to i.body) (items_from (state_after (before ++ call ∷ [])) calls) = of_calls (before ++ call ∷ []) calls in
    let same : All P (items_from (state_after (before ++ call ∷ [])) calls) =
    subst (λ cs. All (λ i. HasSource cs i.to i.body) (items_from (state_after (before ++ call ∷ [])) calls)) (append_assoc before (call ∷ []) calls) rest in
    All-append P (flat_map (items_of s) (accepted_message s call)) (items_from (step s call) calls) (of_call before call calls)
    (subst (λ t. All P (items_from t calls)) (state_after-push before call) same)

pub items_have_sources : ItemsHaveSources
items_have_sources calls r =
    subst (All (HasSource calls r)) (sym (outbox_list r calls)) (to_railway (HasSource calls) r (items_from new_state calls) (of_calls [] calls))

-- the reply to an outsider
outsider_reply : (by : Railway) (events : List Event) (o : Option Record) (unknown unseen : Reply) → (IsOfTrip events by → ⊥) → record_reply by events o unknown unseen ≡ cond (is_some o) unseen unknown
outsider_reply by events None unknown unseen n = refl
outsider_reply by events (Some r) unknown unseen n = ap (λ b. cond b (One r) unseen) (false_from_ne_true (may_see events by) (λ h. n (of_trip events by h)))

outsider_unit : (s : HubState) (by : Railway) (o : Option ℕ) → ((w : ℕ) → o ≡ Some w → IsOfTrip (s.journey w) by → ⊥) →
    unit_reply s by o ≡ cond (is_some (option_and_then (λ w. record_of w (s.journey w)) o)) (refusal_reply NotYours None) (refusal_reply UnknownUnit None)
outsider_unit s by None n = refl
outsider_unit s by (Some w) n = outsider_reply by (s.journey w) (record_of w (s.journey w)) (refusal_reply UnknownUnit None) (refusal_reply NotYours None) (n w refl)

outsider_deviation : (s : HubState) (by : Railway) (o : Option Trip) → (option_map (λ p. p.lead) o ≡ Some by → ⊥) → deviation_reply s by o ≡ cond (is_some o) (refusal_reply NotYours None) (refusal_reply UnknownConsignment None)
outsider_deviation s by None n = refl
outsider_deviation s by (Some p) n =
    ap (λ b. cond b (Many (deviating_records s p)) (refusal_reply NotYours None)) (false_from_ne_true (bytes_eq p.lead by) (λ h. n (ap Some ((bytes_eq-Decides p.lead by).0 h))))

pub outsiders_learn_whether_known : OutsidersLearnWhetherKnown
outsiders_learn_whether_known s t (Ask by w) n k e =
    outsider_reply by (s.journey w) (record_of w (s.journey w)) (refusal_reply UnknownWagon (Some w)) (refusal_reply NotYours (Some w)) n ∙
    ap (λ b. cond b (refusal_reply NotYours (Some w)) (refusal_reply UnknownWagon (Some w))) e ∙
    sym (outsider_reply by (t.journey w) (record_of w (t.journey w)) (refusal_reply UnknownWagon (Some w)) (refusal_reply NotYours (Some w)) k)
outsiders_learn_whether_known s t (AskUnit by u) n k e =
    outsider_unit s by (unit_wagon s u) n ∙ ap (λ b. cond b (refusal_reply NotYours None) (refusal_reply UnknownUnit None)) e ∙ sym (outsider_unit t by (unit_wagon t u) k)
outsiders_learn_whether_known s t (Deviation by c) n k e =
    outsider_deviation s by (s.plan_of c) n ∙ ap (λ b. cond b (refusal_reply NotYours None) (refusal_reply UnknownConsignment None)) e ∙ sym (outsider_deviation t by (t.plan_of c) k)
outsiders_learn_whether_known s t (Send m) n k e = absurd n
outsiders_learn_whether_known s t (Fetch by limit) n k e = absurd n
outsiders_learn_whether_known s t (Ack by i) n k e = absurd n
