-- A reply shows records of the asker's own trips, and items of its own outbox.
use Rattle.hub_model.proofs.Common.{◌≡◌, ℕ, Bool, true, false, cond, List, [], length, drop, max, Option, Some, None, refl, is_some, ap, ◌∙◌, sym, subst, inl, ◌&&◌, option_map, option_or, bytes_eq, All, Contains, false≢true, false_from_ne_true, and_parts, cond_both, none-some, same_Some, All-nil, All-cons, All-drop, All-take, All-contains_itself, bytes_eq-Decides, Railway, ConsignmentId, Trip, Call, Send, Ask, AskUnit, Deviation, Fetch, Ack, Reply, Accepted, Refused, refused, One, Many, Acknowledged, AckAhead, Why, UnknownWagon, UnknownUnit, NotYours, numbered_items, is_ahead, Message, Body, Record, has, plan, stage, is_plan, may_see, record_of, is_late, HubState, new_state, named_wagons, event_for, event_body_for, with_event, journey_after, unit_wagon, is_on_plan, fault, whole_fault, plan_given, reply_to, refusal_reply, record_reply, unit_reply, deviating_records, deviation_reply, ack_reply, state_after, is_verdict, IsOfTrip, sender_of, records_in, items_in, IsOfOwnTrip, ShowsTheirOwn, RepliesShowTheirOwn}
use Rattle.taf_messages.specs.declared.message.Body.TheVariants as body
use Rattle.hub_model.proofs.NoFaultLemmas.{msg, no_whole_fault, planned_anew}
use Rattle.hub_model.proofs.JourneyLengthLemmas.{IsTrackState, kept_calls}
use Rattle.hub_model.proofs.ResponsibleEventLemmas.{text_is}
use Rattle.hub_model.proofs.UnitFrameLemmas.{plan_goes_on, taken_already}
use Rattle.hub_model.proofs.InvolvedLemmas.{each_passed}
use Rattle.hub_model.proofs.NeedToKnowLemmas.{of_trip, wagon_in, messages_get_verdicts}

-- the plan of a wagon's journey is the plan of its consignment, and a plan is found by its own consignment
pub record PlansAgree (s : HubState) : Type 0 where
  pub of_journeys : (w : ℕ) (p : Trip) → plan (s.journey w) ≡ Some p → s.plan_of p.consignment ≡ Some p
  pub of_consignments : (c : ConsignmentId) (p : Trip) → s.plan_of c ≡ Some p → p.consignment ≡ c

given_case : (b : Bool) (q p : Trip) (c : ConsignmentId) (before : Option Trip) → (b ≡ true → q.consignment ≡ c) → (before ≡ Some p → p.consignment ≡ c) → option_or (cond b (Some q) None) before ≡ Some p → p.consignment ≡ c
given_case true q p c before own k h = ap (λ (t : Trip). t.consignment) (sym (same_Some q p h)) ∙ own refl
given_case false q p c before own k h = k h

given_own : (says : Body) (c : ConsignmentId) (before : Option Trip) (p : Trip) → (before ≡ Some p → p.consignment ≡ c) → option_or (plan_given says c) before ≡ Some p → p.consignment ≡ c
given_own (body.Plan q) c before p k h = given_case (bytes_eq q.consignment c) q p c before (λ e. (bytes_eq-Decides q.consignment c).0 e) k h
given_own _ c before p k h = k h

-- what is no plan leaves the plans of journeys
plan_stays : (s : HubState) (m : Message) (w : ℕ) → is_plan (event_body_for s.offer m.by m.body w) ≡ false → plan (journey_after s m w) ≡ plan (s.journey w)
plan_stays s m w k =
    cond_both (has (named_wagons s.offer m) w) (with_event (s.journey w) (event_for s.offer m w)) (s.journey w) (λ events. plan events ≡ plan (s.journey w))
    (λ n. plan_goes_on (s.journey w) (event_for s.offer m w) k)
    (λ n. refl)

module _ (s : HubState) (a : PlansAgree s) (by : Railway) (number : ℕ) where
  -- the first plan of its consignment
  planned_agree : (q : Trip) → whole_fault s by (body.Plan q) ≡ None → (w : ℕ) (p : Trip) → plan (journey_after s (msg by number (body.Plan q)) w) ≡ Some p →
      option_or (cond (bytes_eq q.consignment p.consignment) (Some q) None) (s.plan_of p.consignment) ≡ Some p
  planned_agree q f w p =
      let m = msg by number (body.Plan q) in
      let e = event_for s.offer m w in
      let given : Trip → Option Trip = λ t. option_or (cond (bytes_eq q.consignment t.consignment) (Some q) None) (s.plan_of t.consignment) in
      let own : given q ≡ Some q = ap (λ b. option_or (cond b (Some q) None) (s.plan_of q.consignment)) ((bytes_eq-Decides q.consignment q.consignment).1 refl) in
      cond_both (has (named_wagons s.offer m) w) (with_event (s.journey w) e) (s.journey w) (λ events. plan events ≡ Some p → given p ≡ Some p)
      (λ n. subst (λ events. plan events ≡ Some p → given p ≡ Some p) (sym (planned_anew (s.journey w) e refl)) (λ h. subst (λ t. given t ≡ Some t) (same_Some q p h) own))
      (λ n h.
      let there = a.of_journeys w p h in
      let other : bytes_eq q.consignment p.consignment ≡ false =
      false_from_ne_true (bytes_eq q.consignment p.consignment) (λ e. taken_already _ f (ap (λ c. is_some (s.plan_of c)) ((bytes_eq-Decides q.consignment p.consignment).0 e) ∙ ap is_some there)) in
      ap (λ b. option_or (cond b (Some q) None) (s.plan_of p.consignment)) other ∙ there)

  journeys_agree : (says : Body) → fault s (msg by number says) ≡ None → (w : ℕ) (p : Trip) → plan (journey_after s (msg by number says) w) ≡ Some p → option_or (plan_given says p.consignment) (s.plan_of p.consignment) ≡ Some p
  journeys_agree (body.Plan q) f w p h = planned_agree q (no_whole_fault s (msg by number (body.Plan q)) f) w p h
  journeys_agree (body.Movement m) f w p h = a.of_journeys w p (sym (plan_stays s (msg by number (body.Movement m)) w refl) ∙ h)
  journeys_agree (body.EtiAsk v) f w p h = a.of_journeys w p (sym (plan_stays s (msg by number (body.EtiAsk v)) w refl) ∙ h)
  journeys_agree (body.LegTime v leg minutes) f w p h = a.of_journeys w p (sym (plan_stays s (msg by number (body.LegTime v leg minutes)) w refl) ∙ h)
  journeys_agree (body.Offer o) f w p h = a.of_journeys w p (sym (plan_stays s (msg by number (body.Offer o)) w refl) ∙ h)
  journeys_agree (body.Answer x) f w p h = a.of_journeys w p (sym (plan_stays s (msg by number (body.Answer x)) w refl) ∙ h)
  journeys_agree (body.Withdraw at n) f w p h = a.of_journeys w p (sym (plan_stays s (msg by number (body.Withdraw at n)) w refl) ∙ h)
  journeys_agree (body.Reroute v route) f w p h = a.of_journeys w p (sym (plan_stays s (msg by number (body.Reroute v route)) w refl) ∙ h)

kept_agree : IsTrackState (λ m. Unit {0}) PlansAgree
kept_agree = record {
  accepts = λ s m d f a. record {
    of_journeys = λ w p h. journeys_agree s a m.by m.no m.body f w p h;
    of_consignments = λ c p h. given_own m.body c (s.plan_of c) p (a.of_consignments c p) h;
  };
  notes = λ s m reply a. record { of_journeys = a.of_journeys; of_consignments = a.of_consignments };
  acks = λ s by n a. record { of_journeys = a.of_journeys; of_consignments = a.of_consignments };
}

-- whatever calls came, plans agree
pub plans_agree : (calls : List Call) → PlansAgree (state_after calls)
plans_agree calls = kept_calls PlansAgree kept_agree new_state calls (record { of_journeys = λ w p h. absurd (none-some p h); of_consignments = λ c p h. absurd (none-some p h) })

-- a wagon that is on a plan has its lead
lead_on_plan : (s : HubState) (a : PlansAgree s) (w : ℕ) (p : Trip) (o : Option Trip) → plan (s.journey w) ≡ o → option_map (λ q. q.consignment) o ≡ Some p.consignment → s.plan_of p.consignment ≡ Some p →
    option_map (λ q. q.lead) o ≡ Some p.lead
lead_on_plan s a w p None e h k = absurd (none-some p.consignment h)
lead_on_plan s a w p (Some q) e h k =
    let same : q.consignment ≡ p.consignment = same_Some q.consignment p.consignment h in
    let there : s.plan_of p.consignment ≡ Some q = subst (λ c. s.plan_of c ≡ Some q) same (a.of_journeys w q e) in
    ap (option_map (λ (t : Trip). t.lead)) (sym there ∙ k)

module _ (s : HubState) (a : PlansAgree s) (by : Railway) where
  abbrev IsOwn : Record → Type 0
  IsOwn r = IsOfOwnTrip s by r

  -- the reply shows such records, and no items
  abbrev pub ShowsOwn : Reply → Type 0
  ShowsOwn reply = All IsOwn (records_in reply) × (items_in reply ≡ [])

  own_record : (w : ℕ) (r : Record) → record_of w (s.journey w) ≡ Some r → IsOfTrip (s.journey w) by → IsOwn r
  own_record w r e h =
      let its = wagon_in w (s.journey w) (plan (s.journey w)) (stage (s.journey w)) r e in
      record { is_its_record = subst (λ v. record_of v (s.journey v) ≡ Some r) its e; of_trip = subst (λ v. IsOfTrip (s.journey v) by) its h }

  asked_own : (w : ℕ) (o : Option Record) (why also : Why) (u v : Option ℕ) → record_of w (s.journey w) ≡ o → ShowsOwn (record_reply by (s.journey w) o (refusal_reply why u) (refusal_reply also v))
  asked_own w None why also u v e = (All-nil IsOwn, refl)
  asked_own w (Some r) why also u v e =
      cond_both (may_see (s.journey w) by) (One r) (refusal_reply also v) ShowsOwn
      (λ h. (All-cons IsOwn r [] (own_record w r e (of_trip (s.journey w) by h)) (All-nil IsOwn), refl))
      (λ h. (All-nil IsOwn, refl))

  unit_own : (o : Option ℕ) → ShowsOwn (unit_reply s by o)
  unit_own None = (All-nil IsOwn, refl)
  unit_own (Some w) = asked_own w (record_of w (s.journey w)) UnknownUnit NotYours None None refl

  late_own : (p : Trip) → p.lead ≡ by → s.plan_of p.consignment ≡ Some p → All IsOwn (deviating_records s p)
  late_own p l k =
      each_passed IsOwn (λ w. record_of w (s.journey w)) (λ w. is_late (s.journey w) && is_on_plan (s.journey w) p) p.wagons
      (λ w h r e.
      let on = text_is (option_map (λ q. q.consignment) (plan (s.journey w))) p.consignment ((and_parts (is_late (s.journey w)) (is_on_plan (s.journey w) p) h).1) in
      own_record w r e (inl (lead_on_plan s a w p (plan (s.journey w)) refl on k ∙ ap Some l)))

  deviations_own : (c : ConsignmentId) (o : Option Trip) → s.plan_of c ≡ o → ShowsOwn (deviation_reply s by o)
  deviations_own c None e = (All-nil IsOwn, refl)
  deviations_own c (Some p) e =
      let its : s.plan_of p.consignment ≡ Some p = ap s.plan_of (a.of_consignments c p e) ∙ e in
      cond_both (bytes_eq p.lead by) (Many (deviating_records s p)) (refusal_reply NotYours None) ShowsOwn
      (λ h. (late_own p ((bytes_eq-Decides p.lead by).0 h) its, refl))
      (λ h. (All-nil IsOwn, refl))

  -- a verdict shows neither
  verdict_own : (reply : Reply) → is_verdict reply ≡ true → ShowsOwn reply
  verdict_own (Accepted n) h = (All-nil IsOwn, refl)
  verdict_own (Refused r) h = (All-nil IsOwn, refl)
  verdict_own _ h = absurd (false≢true h)

  acknowledged_own : (n : ℕ) → ShowsOwn (ack_reply s by n)
  acknowledged_own n =
      cond_both (is_ahead (s.outbox by) n) (refused None AckAhead None (Some (length (s.outbox by)))) (Acknowledged (max (s.acknowledged by) n)) ShowsOwn
      (λ h. (All-nil IsOwn, refl))
      (λ h. (All-nil IsOwn, refl))

-- such a reply shows nothing of others
own_reply : (s : HubState) (a : PlansAgree s) (call : Call) → ShowsOwn s a (sender_of call) (reply_to s call) → ShowsTheirOwn s call
own_reply s a call h =
    let numbered = Contains (numbered_items (s.outbox (sender_of call))) in
    record { records = h.0; items = subst (All numbered) (sym h.1) (All-nil numbered) }

pub replies_show_their_own : RepliesShowTheirOwn
replies_show_their_own calls (Send m) =
    let s = state_after calls in
    own_reply s (plans_agree calls) (Send m) (verdict_own s (plans_agree calls) m.by (reply_to s (Send m)) (messages_get_verdicts calls m))
replies_show_their_own calls (Ask by w) =
    let s = state_after calls in
    own_reply s (plans_agree calls) (Ask by w) (asked_own s (plans_agree calls) by w (record_of w (s.journey w)) UnknownWagon NotYours (Some w) (Some w) refl)
replies_show_their_own calls (AskUnit by u) =
    let s = state_after calls in
    own_reply s (plans_agree calls) (AskUnit by u) (unit_own s (plans_agree calls) by (unit_wagon s u))
replies_show_their_own calls (Deviation by c) =
    let s = state_after calls in
    own_reply s (plans_agree calls) (Deviation by c) (deviations_own s (plans_agree calls) by c (s.plan_of c) refl)
replies_show_their_own calls (Ack by n) =
    let s = state_after calls in
    own_reply s (plans_agree calls) (Ack by n) (acknowledged_own s (plans_agree calls) by n)
replies_show_their_own calls (Fetch by limit) =
    let s = state_after calls in
    let items = numbered_items (s.outbox by) in
    let there = Contains items in
    record {
      records = All-nil (IsOfOwnTrip s by);
      items = All-take there limit (drop (s.acknowledged by) items) (All-drop there (s.acknowledged by) items (All-contains_itself items));
    }
