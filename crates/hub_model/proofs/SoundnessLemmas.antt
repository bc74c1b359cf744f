-- What every legal history keeps of offers and wagons.
use Rattle.hub_model.proofs.Common.{◌≡◌, ◌⊎◌, ℕ, Bool, true, false, cond, List, [], ◌∷◌, Option, Some, None, refl, ◌∙◌, sym, inl, inr, unwrap_or, option_or, true≢false, false≢true, cond_both, cases_Bool, Railway, has, UnknownWagon, WagonBusy, Message, TrainOffer, Body, Event, EventBody, Planned, Moved, EstimateAsked, LegTimed, Offered, Answered, Withdrawn, Rerouted, stage, is_delivered, refusal, in_offer, offering_by, stage_in_offer, in_offer-push, in_offer-kept, settles, StaysDelivered, delivered-kept, wagons_of, same_name, is_plan, HubState, Offers, new_state, named_wagons, event_for, event_body_for, with_event, journey_after, fault, known_fault, is_unknown, is_busy, after_acceptance, opening_given, offer_given}
use Rattle.taf_messages.specs.declared.message.Body.TheVariants as body
use Rattle.taf_messages.specs.declared.record.Stage.TheVariants as stage_is
use Rattle.hub_model.proofs.NamedWagonLemmas.{same_name_true, from_same_name, some_name, some_pair}
use Rattle.hub_model.proofs.NoFaultLemmas.{no_whole_fault, no_named_fault, goes_on, known_allowed, planned_anew, listed, answer_fits, withdraw_fits, msg, no_known_fault}

pub record IsSound (s : HubState) : Type 0 where
  -- a wagon of an open offer was put into that offer last
  pub offered : (by : Railway) (n w : ℕ) → s.is_open by n ≡ true → has (wagons_of (s.offer by n)) w ≡ true → in_offer (s.journey w) ≡ Some (by, n)
  pub delivered : (w : ℕ) → StaysDelivered (s.journey w)

-- a wagon stays in its offer where the message does not settle it
stays_in : (s : HubState) (m : Message) (w : ℕ) (x : Railway × ℕ) → in_offer (s.journey w) ≡ Some x → settles (event_body_for s.offer m.by m.body w) ≡ false →
    (has (named_wagons s.offer m) w ≡ true → known_fault s m w ≡ None) → in_offer (journey_after s m w) ≡ Some x
stays_in s m w x i k known =
    cond_both (has (named_wagons s.offer m) w) (with_event (s.journey w) (event_for s.offer m w)) (s.journey w) (λ events. in_offer events ≡ Some x)
    (λ h. rw (goes_on (s.journey w) (event_for s.offer m w) (known h))
    (in_offer-kept (s.journey w) x (event_for s.offer m w) (known_allowed (s.journey w) m.by (event_body_for s.offer m.by m.body w) (known h)) k i))
    (λ h. i)

stays_delivered : (s : HubState) (m : Message) (w : ℕ) → StaysDelivered (s.journey w) → (has (named_wagons s.offer m) w ≡ true → known_fault s m w ≡ None) → StaysDelivered (journey_after s m w)
stays_delivered s m w d known =
    cond_both (has (named_wagons s.offer m) w) (with_event (s.journey w) (event_for s.offer m w)) (s.journey w) StaysDelivered
    (λ h. rw (goes_on (s.journey w) (event_for s.offer m w) (known h))
    (delivered-kept (s.journey w) (event_for s.offer m w) (known_allowed (s.journey w) m.by (event_body_for s.offer m.by m.body w) (known h)) d))
    (λ h. d)

offered_not_delivered : (events : List Event) → stage events ≡ Some stage_is.Offered → stage events ≡ Some stage_is.Delivered → ⊥
offered_not_delivered events o d = cc

-- a wagon in an offer is busy
in_offer_busy : (events : List Event) (x : Railway × ℕ) → in_offer events ≡ Some x → StaysDelivered events → is_busy events ≡ true
in_offer_busy [] x i d = cc
in_offer_busy (first ∷ events) x i d =
    elim (cases_Bool (is_delivered (first ∷ events))) [
      | inl e ↦ absurd (offered_not_delivered (first ∷ events) (stage_in_offer (first ∷ events) x i) (d e))
      | inr e ↦ rw e refl
    ]

-- an offer that is settled and one that stays open are two
not_settled : (by also : Railway) (n k : ℕ) (x : Option (Railway × ℕ)) → same_name by n also k ≡ false → x ≡ Some (by, n) → x ≡ Some (also, k) → ⊥
not_settled by also n k x differ a b =
    let e : Path (Option (Railway × ℕ)) (Some (by, n)) (Some (also, k)) = sym a ∙ b in
    let parts = some_pair by also n k e in
    true≢false (sym (same_name_true by also n k parts.0 parts.1) ∙ differ)

-- what is left open after an answer or a withdrawal
pub open_before : (c o : Bool) → unwrap_or (cond c (Some false) None) o ≡ true → (c ≡ false) × (o ≡ true)
open_before true o h = absurd (false≢true h)
open_before false o h = (refl, h)

none_is_busy : (b : Bool) → b ≡ true → cond b (Some WagonBusy) None ≡ None → ⊥
none_is_busy b e h = let z : Some WagonBusy ≡ None = rw e at h in cc

-- what is left open after a message that settles this offer, with its wagons
settled_case : (s : HubState) (so : IsSound s) (m : Message) (also : Railway) (k : ℕ) →
    s.is_open also k ≡ true → ((w : ℕ) → has (named_wagons s.offer m) w ≡ true → has (wagons_of (s.offer also k)) w ≡ true) →
    (b : Railway) (n w : ℕ) → unwrap_or (cond (same_name also k b n) (Some false) None) (s.is_open b n) ≡ true → has (wagons_of (s.offer b n)) w ≡ true → in_offer (journey_after s m w) ≡ Some (b, n)
settled_case s so m also k opened inside b n w o h =
    let before = open_before (same_name also k b n) (s.is_open b n) o in
    let here = so.offered b n w before.1 h in
    cond_both (has (named_wagons s.offer m) w) (with_event (s.journey w) (event_for s.offer m w)) (s.journey w) (λ events. in_offer events ≡ Some (b, n))
    (λ e. absurd (not_settled also b k n (in_offer (s.journey w)) before.0 (so.offered also k w opened (inside w e)) here))
    (λ e. here)

-- a new offer
offered_now : (events : List Event) (e : Event) (x : Railway × ℕ) → cond (is_unknown events) (Some UnknownWagon) (refusal events e.by e.body) ≡ None → offering_by e ≡ Some (Some x) → in_offer (with_event events e) ≡ Some x
offered_now events e x r h = rw (goes_on events e r, in_offer-push events e, h) refl

module _ (s : HubState) (so : IsSound s) (by : Railway) (number : ℕ) where
  offer_case : (o : TrainOffer) (f : fault s (msg by number (body.Offer o)) ≡ None) (b : Railway) (n w : ℕ) (c : Bool) → same_name by number b n ≡ c →
      unwrap_or (cond c (Some true) None) (s.is_open b n) ≡ true →
      has (wagons_of (option_or (cond c (Some (record { by = by; no = number; to = o.to; place = o.place; wagons = o.wagons })) None) (s.offer b n))) w ≡ true →
      in_offer (journey_after s (msg by number (body.Offer o)) w) ≡ Some (b, n)
  offer_case o f b n w true same opened h =
      let m = msg by number (body.Offer o) in
      let known : known_fault s m w ≡ None = no_known_fault s by number (body.Offer o) w tt f h in
      let parts = from_same_name by b number n same in
      rw h (offered_now (s.journey w) (event_for s.offer m w) (by, number) known refl ∙ some_name by b number n parts.0 parts.1)
  offer_case o f b n w false same opened h =
      stays_in s (msg by number (body.Offer o)) w (b, n) (so.offered b n w opened h) refl (λ e. no_known_fault s by number (body.Offer o) w tt f e)

  keeps_offered : (says : Body) → fault s (msg by number says) ≡ None → (b : Railway) (n w : ℕ) →
      unwrap_or (opening_given (msg by number says) says b n) (s.is_open b n) ≡ true → has (wagons_of (option_or (offer_given (msg by number says) says b n) (s.offer b n))) w ≡ true →
      in_offer (journey_after s (msg by number says) w) ≡ Some (b, n)
  keeps_offered (body.Plan p) f b n w opened h =
      let m = msg by number (body.Plan p) in
      let here = so.offered b n w opened h in
      cond_both (has (named_wagons s.offer m) w) (with_event (s.journey w) (event_for s.offer m w)) (s.journey w) (λ events. in_offer events ≡ Some (b, n))
      (λ e. absurd (none_is_busy _ (in_offer_busy (s.journey w) (b, n) here (so.delivered w)) (no_named_fault s m w f e)))
      (λ e. here)
  keeps_offered (body.Movement m) f b n w opened h =
      stays_in s (msg by number (body.Movement m)) w (b, n) (so.offered b n w opened h) refl (λ e. no_known_fault s by number (body.Movement m) w tt f e)
  keeps_offered (body.EtiAsk v) f b n w opened h =
      stays_in s (msg by number (body.EtiAsk v)) w (b, n) (so.offered b n w opened h) refl (λ e. no_known_fault s by number (body.EtiAsk v) w tt f e)
  keeps_offered (body.LegTime v leg minutes) f b n w opened h =
      stays_in s (msg by number (body.LegTime v leg minutes)) w (b, n) (so.offered b n w opened h) refl (λ e. no_known_fault s by number (body.LegTime v leg minutes) w tt f e)
  keeps_offered (body.Reroute v route) f b n w opened h =
      stays_in s (msg by number (body.Reroute v route)) w (b, n) (so.offered b n w opened h) refl (λ e. no_known_fault s by number (body.Reroute v route) w tt f e)
  keeps_offered (body.Offer o) f b n w opened h = offer_case o f b n w (same_name by number b n) refl opened h
  keeps_offered (body.Answer a) f b n w opened h =
      let parts = answer_fits s by a (no_whole_fault s (msg by number (body.Answer a)) f) in
      settled_case s so (msg by number (body.Answer a)) a.offerer a.offer parts.0 (λ v e. listed _ _ v parts.1 e) b n w opened h
  keeps_offered (body.Withdraw at k) f b n w opened h =
      settled_case s so (msg by number (body.Withdraw at k)) by k (withdraw_fits s by at k (no_whole_fault s (msg by number (body.Withdraw at k)) f)) (λ v e. e) b n w opened h

-- an answer or a withdrawal comes to a wagon that is offered, and known
pub answered_known : (events : List Event) (by : Railway) (says : EventBody) → settles says ≡ true → stage events ≡ Some stage_is.Offered → cond (is_unknown events) (Some UnknownWagon) (refusal events by says) ≡ None
answered_known [] by says k o = cc
answered_known (e ∷ events) by (Answered place received) k o = rw o refl
answered_known (e ∷ events) by (Withdrawn place) k o = rw o refl
answered_known (e ∷ events) by (Planned p) k o = cc
answered_known (e ∷ events) by (Moved what) k o = cc
answered_known (e ∷ events) by (Offered place to) k o = cc
answered_known (e ∷ events) by EstimateAsked k o = cc
answered_known (e ∷ events) by (LegTimed leg minutes) k o = cc
answered_known (e ∷ events) by (Rerouted route) k o = cc

-- a wagon that a message without a fault names passed its own checks, unless the message is a plan
abbrev pub NoPlan : Body → Type 0
NoPlan (body.Plan p) = ⊥
NoPlan _ = Unit {0}

-- what is said of a wagon begins its journey anew, or the message is no plan
pub plan_or_not : (offers : Offers) (by : Railway) (says : Body) (w : ℕ) → (is_plan (event_body_for offers by says w) ≡ true) ⊎ NoPlan says
plan_or_not offers by (body.Plan p) w = inl refl
plan_or_not offers by (body.Movement m) w = inr tt
plan_or_not offers by (body.EtiAsk v) w = inr tt
plan_or_not offers by (body.LegTime v leg minutes) w = inr tt
plan_or_not offers by (body.Offer o) w = inr tt
plan_or_not offers by (body.Answer a) w = inr tt
plan_or_not offers by (body.Withdraw at n) w = inr tt
plan_or_not offers by (body.Reroute v route) w = inr tt

pub all_known : (s : HubState) (so : IsSound s) (by : Railway) (number : ℕ) (says : Body) (w : ℕ) → NoPlan says → fault s (msg by number says) ≡ None → has (named_wagons s.offer (msg by number says)) w ≡ true →
    known_fault s (msg by number says) w ≡ None
all_known s so by number (body.Plan p) w g f h = absurd g
all_known s so by number (body.Answer a) w g f h =
    let parts = answer_fits s by a (no_whole_fault s (msg by number (body.Answer a)) f) in
    answered_known (s.journey w) by (event_body_for s.offer by (body.Answer a) w) refl (stage_in_offer (s.journey w) (a.offerer, a.offer) (so.offered a.offerer a.offer w parts.0 (listed _ _ w parts.1 h)))
all_known s so by number (body.Withdraw at k) w g f h =
    let opened = withdraw_fits s by at k (no_whole_fault s (msg by number (body.Withdraw at k)) f) in
    answered_known (s.journey w) by (event_body_for s.offer by (body.Withdraw at k) w) refl (stage_in_offer (s.journey w) (by, k) (so.offered by k w opened h))
all_known s so by number (body.Movement m) w g f h = no_known_fault s by number (body.Movement m) w tt f h
all_known s so by number (body.EtiAsk v) w g f h = no_known_fault s by number (body.EtiAsk v) w tt f h
all_known s so by number (body.LegTime v leg minutes) w g f h = no_known_fault s by number (body.LegTime v leg minutes) w tt f h
all_known s so by number (body.Offer o) w g f h = no_known_fault s by number (body.Offer o) w tt f h
all_known s so by number (body.Reroute v route) w g f h = no_known_fault s by number (body.Reroute v route) w tt f h

keeps_delivered : (s : HubState) (so : IsSound s) (by : Railway) (number : ℕ) (says : Body) → fault s (msg by number says) ≡ None → (w : ℕ) → StaysDelivered (journey_after s (msg by number says) w)
keeps_delivered s so by number (body.Plan p) f w =
    let m = msg by number (body.Plan p) in
    cond_both (has (named_wagons s.offer m) w) (with_event (s.journey w) (event_for s.offer m w)) (s.journey w) StaysDelivered
    (λ e. rw (planned_anew (s.journey w) (event_for s.offer m w) refl) (λ d. absurd (false≢true d)))
    (λ e. so.delivered w)
keeps_delivered s so by number (body.Movement m) f w = stays_delivered s (msg by number (body.Movement m)) w (so.delivered w) (all_known s so by number (body.Movement m) w tt f)
keeps_delivered s so by number (body.EtiAsk v) f w = stays_delivered s (msg by number (body.EtiAsk v)) w (so.delivered w) (all_known s so by number (body.EtiAsk v) w tt f)
keeps_delivered s so by number (body.LegTime v leg minutes) f w = stays_delivered s (msg by number (body.LegTime v leg minutes)) w (so.delivered w) (all_known s so by number (body.LegTime v leg minutes) w tt f)
keeps_delivered s so by number (body.Offer o) f w = stays_delivered s (msg by number (body.Offer o)) w (so.delivered w) (all_known s so by number (body.Offer o) w tt f)
keeps_delivered s so by number (body.Answer a) f w = stays_delivered s (msg by number (body.Answer a)) w (so.delivered w) (all_known s so by number (body.Answer a) w tt f)
keeps_delivered s so by number (body.Withdraw at k) f w = stays_delivered s (msg by number (body.Withdraw at k)) w (so.delivered w) (all_known s so by number (body.Withdraw at k) w tt f)
keeps_delivered s so by number (body.Reroute v route) f w = stays_delivered s (msg by number (body.Reroute v route)) w (so.delivered w) (all_known s so by number (body.Reroute v route) w tt f)

pub sound_accepted : (s : HubState) → IsSound s → (m : Message) → fault s m ≡ None → IsSound (after_acceptance s m)
sound_accepted s so m f = record {
  offered = λ by n w opened h. keeps_offered s so m.by m.no m.body f by n w opened h;
  delivered = λ w. keeps_delivered s so m.by m.no m.body f w;
}

-- nothing was offered or delivered at the start
pub sound_nothing : IsSound new_state
sound_nothing = record { offered = λ by n w opened h. absurd (false≢true opened); delivered = λ w d. absurd (false≢true d) }
