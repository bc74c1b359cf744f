-- Each accepted message is of a railway that may send it.
use Rattle.hub_model.proofs.Common.{◌≡◌, ℕ, Bool, true, false, cond, List, [], Option, Some, None, refl, ap, ◌∙◌, sym, is_none, option_map, option_or, true≢false, and_parts, not-false, none-some, same_Some, bytes_eq-Decides, Railway, Message, MovementKind, Release, Departure, YardArrival, YardDeparture, Exception, Estimate, Arrival, Delivery, Body, Event, Moved, EstimateAsked, LegTimed, Offered, Rerouted, responsible, lead_of, runner_of, refusal, checks, movement_checks, route_checks, journey_state, passed, Offer, same_name, is_sent_by_its_lead, Call, HubState, new_state, fault, whole_checks, offer_given, state_after, MayReport, MaySend, SendersMaySend}
use Rattle.taf_messages.specs.declared.message.Body.TheVariants as body
use Rattle.hub_model.proofs.NamedWagonLemmas.{from_same_name}
use Rattle.hub_model.proofs.NoFaultLemmas.{msg, no_known_fault, no_whole_fault, known_allowed}
use Rattle.hub_model.proofs.JourneyLengthLemmas.{IsTrackState, kept_calls}
use Rattle.hub_model.proofs.OfferOpeningLemmas.{none_fault}
use Rattle.hub_model.proofs.DependencyLemmas.{has_first}
use Rattle.hub_model.proofs.ResponsibleEventLemmas.{text_is}
use Rattle.hub_model.proofs.ConsentLemmas.{asked_answers}

-- an offer is found by the railway that made it
pub record OffersAreOwn (s : HubState) : Type 0 where
  pub own : (by : Railway) (n : ℕ) (o : Offer) → s.offer by n ≡ Some o → o.by ≡ by

own_case : (b : Bool) (given o : Offer) (before : Option Offer) (by : Railway) → (b ≡ true → given.by ≡ by) → (before ≡ Some o → o.by ≡ by) → option_or (cond b (Some given) None) before ≡ Some o → o.by ≡ by
own_case true given o before by k l h = ap (λ (x : Offer). x.by) (sym (same_Some given o h)) ∙ k refl
own_case false given o before by k l h = l h

own_given : (m : Message) (says : Body) (by : Railway) (n : ℕ) (before : Option Offer) (o : Offer) → (before ≡ Some o → o.by ≡ by) → option_or (offer_given m says by n) before ≡ Some o → o.by ≡ by
own_given m (body.Offer x) by n before o k h =
    own_case (same_name m.by m.no by n) (record { by = m.by; no = m.no; to = x.to; place = x.place; wagons = x.wagons }) o before by (λ e. (from_same_name m.by by m.no n e).0) k h
own_given m _ by n before o k h = k h

kept_own : IsTrackState (λ m. Unit {0}) OffersAreOwn
kept_own = record {
  accepts = λ s m d f k. record { own = λ by n o h. own_given m m.body by n (s.offer by n) o (k.own by n o) h };
  notes = λ s m reply k. record { own = k.own };
  acks = λ s by n k. record { own = k.own };
}

offers_are_own : (calls : List Call) → OffersAreOwn (state_after calls)
offers_are_own calls = kept_calls OffersAreOwn kept_own new_state calls (record { own = λ by n o h. absurd (none-some o h) })

-- a movement that may come next
may_report : (events : List Event) (by : Railway) (what : MovementKind) → refusal events by (Moved what) ≡ None → MayReport events what by
may_report events by Release r = let p = passed (movement_checks (journey_state events) by Release) r in text_is (lead_of events) by (not-false _ p.1.0)
may_report events by Departure r = let p = passed (movement_checks (journey_state events) by Departure) r in text_is (runner_of events 0) by (not-false _ p.1.0)
may_report events by (YardArrival place) r = let p = passed (movement_checks (journey_state events) by (YardArrival place)) r in text_is (responsible events) by (not-false _ p.1.0)
may_report events by (YardDeparture place) r = let p = passed (movement_checks (journey_state events) by (YardDeparture place)) r in text_is (responsible events) by (not-false _ p.1.0)
may_report events by (Exception delay) r = let p = passed (movement_checks (journey_state events) by (Exception delay)) r in text_is (responsible events) by (not-false _ p.1.0)
may_report events by Estimate r = let p = passed (movement_checks (journey_state events) by Estimate) r in text_is (responsible events) by (not-false _ p.1.0)
may_report events by Arrival r = let p = passed (movement_checks (journey_state events) by Arrival) r in text_is (responsible events) by (not-false _ p.1.0)
may_report events by Delivery r = let p = passed (movement_checks (journey_state events) by Delivery) r in text_is (responsible events) by (not-false _ p.1.0)

-- an offer that is there was made by its own name
offerer_is : (o : Option Offer) (by : Railway) → ((x : Offer) → o ≡ Some x → x.by ≡ by) → is_none o ≡ false → option_map (λ x. x.by) o ≡ Some by
offerer_is None by k h = absurd (true≢false h)
offerer_is (Some x) by k h = ap Some (k x refl)

module _ (s : HubState) (own : OffersAreOwn s) (by : Railway) (number : ℕ) where
  may_send : (says : Body) → is_sent_by_its_lead by says ≡ true → fault s (msg by number says) ≡ None → MaySend s by says
  may_send (body.Plan p) l f = (bytes_eq-Decides p.lead by).0 l
  may_send (body.Movement v) l f =
      may_report (s.journey v.wagon) by v.what (known_allowed (s.journey v.wagon) by (Moved v.what) (no_known_fault s by number (body.Movement v) v.wagon tt f (has_first v.wagon [])))
  may_send (body.EtiAsk w) l f =
      let p = passed (checks (journey_state (s.journey w)) by EstimateAsked) (known_allowed (s.journey w) by EstimateAsked (no_known_fault s by number (body.EtiAsk w) w tt f (has_first w []))) in
      text_is (lead_of (s.journey w)) by (not-false _ p.1.0)
  may_send (body.LegTime w leg minutes) l f =
      let p = passed (checks (journey_state (s.journey w)) by (LegTimed leg minutes)) (known_allowed (s.journey w) by (LegTimed leg minutes) (no_known_fault s by number (body.LegTime w leg minutes) w tt f (has_first w []))) in
      text_is (runner_of (s.journey w) leg) by (not-false _ p.1.0)
  may_send (body.Offer o) l f = λ w h.
      (let p = passed (checks (journey_state (s.journey w)) by (Offered o.place o.to)) (known_allowed (s.journey w) by (Offered o.place o.to) (no_known_fault s by number (body.Offer o) w tt f h)) in
      text_is (responsible (s.journey w)) by (not-false _ p.1.0))
  may_send (body.Answer a) l f = asked_answers s by a (no_whole_fault s (msg by number (body.Answer a)) f)
  may_send (body.Withdraw at n) l f =
      let p = passed (whole_checks s by (body.Withdraw at n)) (no_whole_fault s (msg by number (body.Withdraw at n)) f) in offerer_is (s.offer by n) by (λ x h. own.own by n x h) p.0
  may_send (body.Reroute w route) l f =
      let p = passed (route_checks (journey_state (s.journey w)) by route) (known_allowed (s.journey w) by (Rerouted route) (no_known_fault s by number (body.Reroute w route) w tt f (has_first w []))) in
      text_is (lead_of (s.journey w)) by (not-false _ p.1.0)

pub senders_may_send : SendersMaySend
senders_may_send calls m lead t =
    let s = state_after calls in
    let parts = and_parts (is_none (s.first_send m.by m.no)) (is_none (fault s m)) t in
    may_send s (offers_are_own calls) m.by m.no m.body lead (none_fault (fault s m) parts.1)
