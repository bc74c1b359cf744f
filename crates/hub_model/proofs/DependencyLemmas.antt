-- What a message reads: the look-ups at the names that it counts with, and nothing else.
use Rattle.hub_model.proofs.Common.{◌≡◌, ℕ, true, cond, not, List, [], ◌∷◌, ◌++◌, Option, Some, None, refl, ap, ◌∙◌, eqb, ◌&&◌, map, flat_map, filter_map, option_or, or_left, or_right, eq-eqb, list_any-append, bytes_eq-Decides, Railway, UnitCode, ConsignmentId, UnitLoad, has, loads, BeyondCalendar, Message, Body, Event, lead_of, wagons_of, fits, is_calendar_checked, HubState, named_wagons, wagons_in, event_body_for, journey_after, is_unit_busy, units_in, fault, whole_fault, first_fault, unit_fault, wagon_fault, known_fault, calendar_fault, AddressedItem, notice_receivers, movement_receivers, route_receivers, notices, sub_items, estimate_items, alert_items, items_of, each_once, affected_wagons, consignment_in, offer_named}
use Rattle.taf_messages.specs.declared.item.ItemBody.TheVariants as item
use Rattle.taf_messages.specs.declared.message.Body.TheVariants as body
use Rattle.hub_model.proofs.NoFaultLemmas.{msg}

-- the same is looked up at the names of the message
pub record AreSameAt (s t : HubState) (m : Message) : Type 0 where
  pub wagons : (w : ℕ) → has (affected_wagons s m m.body) w ≡ true → s.journey w ≡ t.journey w
  pub units : (u : UnitCode) → loads (units_in m.body) u ≡ true → is_unit_busy s u ≡ is_unit_busy t u
  pub consignment : (c : ConsignmentId) → Path (Option ConsignmentId) (consignment_in m.body) (Some c) → s.plan_of c ≡ t.plan_of c
  pub offers : (by : Railway) (n : ℕ) → Path (Option (Railway × ℕ)) (offer_named m m.body) (Some (by, n)) → s.offer by n ≡ t.offer by n
  pub opens : (by : Railway) (n : ℕ) → Path (Option (Railway × ℕ)) (offer_named m m.body) (Some (by, n)) → s.is_open by n ≡ t.is_open by n
  pub first_sends : s.first_send m.by m.no ≡ t.first_send m.by m.no

-- the message reads the same, but for the units
pub record ReadsAlike (s t : HubState) (m : Message) : Type 0 where
  pub names : named_wagons s.offer m ≡ named_wagons t.offer m
  pub said : (w : ℕ) → event_body_for s.offer m.by m.body w ≡ event_body_for t.offer m.by m.body w
  pub whole : whole_fault s m.by m.body ≡ whole_fault t m.by m.body
  pub send_of_name : (after : ℕ → List Event) → notice_receivers s after m.by m.body ≡ notice_receivers t after m.by m.body
  pub journeys : (w : ℕ) → has (named_wagons s.offer m) w ≡ true → s.journey w ≡ t.journey w

pub has-left : (ws vs : List ℕ) (w : ℕ) → has ws w ≡ true → has (ws ++ vs) w ≡ true
has-left ws vs w h = list_any-append (λ v. eqb v w) ws vs ∙ or_left _ _ h

pub has_first : (w : ℕ) (ws : List ℕ) → has (w ∷ ws) w ≡ true
has_first w ws = or_left _ _ (eq-eqb w w refl)

reads_body : (s t : HubState) (by : Railway) (number : ℕ) (says : Body) → AreSameAt s t (msg by number says) → ReadsAlike s t (msg by number says)
reads_body s t by number (body.Plan p) a = record { names = refl; said = λ w. refl; whole = rw (a.consignment p.consignment refl) refl; send_of_name = λ after. refl; journeys = a.wagons }
reads_body s t by number (body.Movement m) a = record { names = refl; said = λ w. refl; whole = refl; send_of_name = λ after. refl; journeys = a.wagons }
reads_body s t by number (body.EtiAsk v) a = record { names = refl; said = λ w. refl; whole = refl; send_of_name = λ after. refl; journeys = a.wagons }
reads_body s t by number (body.LegTime v leg minutes) a = record { names = refl; said = λ w. refl; whole = refl; send_of_name = λ after. refl; journeys = a.wagons }
reads_body s t by number (body.Offer o) a = record { names = refl; said = λ w. refl; whole = refl; send_of_name = λ after. refl; journeys = a.wagons }
reads_body s t by number (body.Answer x) a = record {
  names = refl;
  said = λ w. rw (a.offers x.offerer x.offer refl) refl;
  whole = rw (a.offers x.offerer x.offer refl, a.opens x.offerer x.offer refl) refl;
  send_of_name = λ after. refl;
  journeys = λ w h. a.wagons w (has-left (x.received ++ x.refused) (wagons_of (s.offer x.offerer x.offer)) w h);
}
reads_body s t by number (body.Withdraw at k) a = record {
  names = rw (a.offers by k refl) refl;
  said = λ w. rw (a.offers by k refl) refl;
  whole = rw (a.offers by k refl, a.opens by k refl) refl;
  send_of_name = λ after. rw (a.offers by k refl) refl;
  journeys = a.wagons;
}
reads_body s t by number (body.Reroute v route) a = record {
  names = refl;
  said = λ w. refl;
  whole = refl;
  send_of_name = λ after. ap (λ events. route_receivers events route) (a.wagons v (has_first v []));
  journeys = a.wagons;
}

pub reads_alike : (s t : HubState) (m : Message) → AreSameAt s t m → ReadsAlike s t m
reads_alike s t m a = reads_body s t m.by m.no m.body a

-- what a wagon's events are after the message
pub journey_after-same : (s t : HubState) (m : Message) → ReadsAlike s t m → (w : ℕ) → s.journey w ≡ t.journey w → journey_after s m w ≡ journey_after t m w
journey_after-same s t m r w e = rw (r.names, r.said w, e) refl

known-same : (s t : HubState) (m : Message) → ReadsAlike s t m → (w : ℕ) → s.journey w ≡ t.journey w → known_fault s m w ≡ known_fault t m w
known-same s t m r w e = rw (r.said w, e) refl

calendar-same : (s t : HubState) (m : Message) → ReadsAlike s t m → (w : ℕ) → s.journey w ≡ t.journey w → calendar_fault s m w ≡ calendar_fault t m w
calendar-same s t m r w e =
    ap (λ says. cond (is_calendar_checked says && not (fits (journey_after s m w))) (Some BeyondCalendar) None) (r.said w) ∙
    ap (λ events. cond (is_calendar_checked (event_body_for t.offer m.by m.body w) && not (fits events)) (Some BeyondCalendar) None) (journey_after-same s t m r w e)

wagon_by_body : (s t : HubState) (m : Message) (w : ℕ) → s.journey w ≡ t.journey w → known_fault s m w ≡ known_fault t m w → calendar_fault s m w ≡ calendar_fault t m w →
    (says : Body) → wagon_fault s m says w ≡ wagon_fault t m says w
wagon_by_body s t m w e k c (body.Plan p) = rw e refl
wagon_by_body s t m w e k c (body.Answer a) = c
wagon_by_body s t m w e k c (body.Withdraw at n) = refl
wagon_by_body s t m w e k c _ = ap (λ x. option_or x (calendar_fault s m w)) k ∙ ap (option_or (known_fault t m w)) c

wagon_fault-same : (s t : HubState) (m : Message) → ReadsAlike s t m → (w : ℕ) → s.journey w ≡ t.journey w → wagon_fault s m m.body w ≡ wagon_fault t m m.body w
wagon_fault-same s t m r w e = wagon_by_body s t m w e (known-same s t m r w e) (calendar-same s t m r w e) m.body

-- each of these wagons has the same events
abbrev SameJourneys : HubState → HubState → List ℕ → Type 0
SameJourneys s t [] = Unit {0}
SameJourneys s t (w ∷ wagons) = (s.journey w ≡ t.journey w) × SameJourneys s t wagons

same_journeys : (s t : HubState) (wagons : List ℕ) → ((w : ℕ) → has wagons w ≡ true → s.journey w ≡ t.journey w) → SameJourneys s t wagons
same_journeys s t [] h = tt
same_journeys s t (w ∷ wagons) h = (h w (has_first w wagons), same_journeys s t wagons (λ v e. h v (or_right _ _ e)))

named_journeys : (s t : HubState) (m : Message) → ReadsAlike s t m → SameJourneys s t (named_wagons s.offer m)
named_journeys s t m r = same_journeys s t (named_wagons s.offer m) r.journeys

first_fault-same : (s t : HubState) (m : Message) → ReadsAlike s t m → (wagons : List ℕ) → SameJourneys s t wagons → first_fault s m wagons ≡ first_fault t m wagons
first_fault-same s t m r [] j = refl
first_fault-same s t m r (w ∷ wagons) j = rw (wagon_fault-same s t m r w j.0, first_fault-same s t m r wagons j.1) refl

unit_fault-same : (s t : HubState) (units : List UnitLoad) → ((u : UnitCode) → loads units u ≡ true → is_unit_busy s u ≡ is_unit_busy t u) → unit_fault s units ≡ unit_fault t units
unit_fault-same s t [] h = refl
unit_fault-same s t (l ∷ units) h =
    let here = h l.unit (or_left _ _ ((bytes_eq-Decides l.unit l.unit).1 refl)) in
    let rest = unit_fault-same s t units (λ u e. h u (or_right _ _ e)) in
    rw (here, rest) refl

-- where the same is looked up at its names, a message has the same fault
pub fault-same : (s t : HubState) (m : Message) → AreSameAt s t m → fault s m ≡ fault t m
fault-same s t m a =
    let r = reads_alike s t m a in
    rw (r.whole, first_fault-same s t m r (named_wagons s.offer m) (named_journeys s t m r), unit_fault-same s t (units_in m.body) a.units, r.names) refl

-- two functions that agree at each of these wagons
abbrev SameOn : {X : Type 0} → (ℕ → X) → (ℕ → X) → List ℕ → Type 0
SameOn f g [] = Unit {0}
SameOn f g (w ∷ wagons) = (f w ≡ g w) × SameOn f g wagons

flat_map-same : {A : Type 0} (f g : ℕ → List A) (wagons : List ℕ) → SameOn f g wagons → flat_map f wagons ≡ flat_map g wagons
flat_map-same f g [] h = refl
flat_map-same f g (w ∷ wagons) h = rw (h.0, flat_map-same f g wagons h.1) refl

filter_map-same : {A : Type 0} (f g : ℕ → Option A) (wagons : List ℕ) → SameOn f g wagons → filter_map f wagons ≡ filter_map g wagons
filter_map-same f g [] h = refl
filter_map-same f g (w ∷ wagons) h = rw (h.0, filter_map-same f g wagons h.1) refl

same_after : (s t : HubState) (m : Message) → ReadsAlike s t m → (wagons : List ℕ) → SameJourneys s t wagons → SameOn (journey_after s m) (journey_after t m) wagons
same_after s t m r [] j = tt
same_after s t m r (w ∷ wagons) j = (journey_after-same s t m r w j.0, same_after s t m r wagons j.1)

-- what is made of a wagon's events before and after the message
same_made : {A : Type 0} (make : List Event → List Event → ℕ → List A) (s t : HubState) (m : Message) → ReadsAlike s t m → (wagons : List ℕ) → SameJourneys s t wagons →
    SameOn (λ w. make (s.journey w) (journey_after s m w) w) (λ w. make (t.journey w) (journey_after t m w) w) wagons
same_made make s t m r [] j = tt
same_made make s t m r (w ∷ wagons) j = (rw (journey_after-same s t m r w j.0, j.0) refl, same_made make s t m r wagons j.1)

same_lead : (after later : ℕ → List Event) (wagons : List ℕ) → SameOn after later wagons → SameOn (λ w. lead_of (after w)) (λ w. lead_of (later w)) wagons
same_lead after later [] h = tt
same_lead after later (w ∷ wagons) h = (ap lead_of h.0, same_lead after later wagons h.1)

notified_by_body : (s : HubState) (after later : ℕ → List Event) (by : Railway) (says : Body) → SameOn after later (wagons_in s.offer by says) → notice_receivers s after by says ≡ notice_receivers s later by says
notified_by_body s after later by (body.Plan p) h = refl
notified_by_body s after later by (body.Movement m) h = ap (λ events. movement_receivers events m.what) h.0
notified_by_body s after later by (body.EtiAsk w) h = rw h.0 refl
notified_by_body s after later by (body.LegTime w leg minutes) h = refl
notified_by_body s after later by (body.Offer o) h = refl
notified_by_body s after later by (body.Answer a) h = ap (λ leads. a.offerer ∷ leads) (filter_map-same _ _ (a.received ++ a.refused) (same_lead after later (a.received ++ a.refused) h))
notified_by_body s after later by (body.Withdraw at n) h = refl
notified_by_body s after later by (body.Reroute w route) h = refl

-- a message that reads the same has the same railways told
notice_receivers-same : (s t : HubState) (m : Message) → ReadsAlike s t m → notice_receivers s (journey_after s m) m.by m.body ≡ notice_receivers t (journey_after t m) m.by m.body
notice_receivers-same s t m r =
    notified_by_body s (journey_after s m) (journey_after t m) m.by m.body (same_after s t m r (named_wagons s.offer m) (named_journeys s t m r)) ∙ r.send_of_name (journey_after t m)

wagon_items-same : (make : List Event → List Event → ℕ → List AddressedItem) (s t : HubState) (m : Message) → ReadsAlike s t m →
    flat_map (λ w. make (s.journey w) (journey_after s m w) w) (named_wagons s.offer m) ≡ flat_map (λ w. make (t.journey w) (journey_after t m w) w) (named_wagons t.offer m)
wagon_items-same make s t m r =
    flat_map-same _ _ (named_wagons s.offer m) (same_made make s t m r (named_wagons s.offer m) (named_journeys s t m r)) ∙ ap (flat_map (λ w. make (t.journey w) (journey_after t m w) w)) r.names

-- a message that reads the same makes the same items
pub items_of-same : (s t : HubState) (m : Message) → ReadsAlike s t m → items_of s m ≡ items_of t m
items_of-same s t m r =
    let to_all : notices s m ≡ notices t m = ap (λ rs. map (λ q. record { to = q; body = item.Notice m }) (each_once rs) ++ sub_items m.by m.body) (notice_receivers-same s t m r) in
    let estimated = wagon_items-same estimate_items s t m r in
    let alert_receivers = wagon_items-same alert_items s t m r in
    rw (to_all, estimated, alert_receivers) refl
