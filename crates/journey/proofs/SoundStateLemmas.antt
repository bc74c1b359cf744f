-- One more event: the state that it leads to, and what stays true of it.
use Rattle.journey.proofs.Common.{◌≡◌, ℕ, ◌+◌, ◌<◌, ◌≤◌, Bool, true, false, cond, zero, suc, List, [], ◌∷◌, ◌++◌, length, Option, Some, None, refl, ap, ◌∙◌, sym, inl, inr, arith, add-zero, ◌||◌, fold, slice_get, option_map, is_some, option_or, option_eq, list_any, cases_Bool, not-false, ltb-false, list_any-append, Railway, first_of, is_text, Leg, Exception, Estimate, Stage, Event, EventBody, Planned, Moved, EstimateAsked, LegTimed, Offered, Answered, Rerouted, JourneyState, stage_after, is_reception, is_departure, is_delivery, new_responsible, is_plan, plan, plan_in, has_later_plan, HasRoom, HaveRoom, legs_after, index_after, lead_of, lead_in, yard_in, journey_state, journey_state_after, checks, route_checks, same_stage, IsSound, IsTrackState, first_plan}
use Rattle.taf_messages.specs.declared.record.Stage.TheVariants as stage_is
use Rattle.journey.proofs.NewestLemmas.{newest-push}
use Rattle.journey.proofs.LegPositionLemmas.{stage-push, plan-push, leg_index-push, legs-push, timed_length, rerouted_length}
use Rattle.journey.proofs.OnItsWayLemmas.{some_right}
use Rattle.journey.proofs.JourneyLemmas.{journey-push}

or-false : (a b : Bool) → (a || (b || false)) ≡ (a || b)
or-false a true = refl
or-false a false = refl

any-push : {A : Type 0} (p : A → Bool) (xs : List A) (x : A) → list_any p (xs ++ x ∷ []) ≡ (list_any p xs || p x)
any-push p xs x = list_any-append p xs (x ∷ []) ∙ or-false (list_any p xs) (p x)

map_or : {A B : Type 0} (f : A → B) (a b : Option A) → option_map f (option_or a b) ≡ option_or (option_map f a) (option_map f b)
map_or f None b = refl
map_or f (Some x) b = refl

lead-push : (events : List Event) (e : Event) → lead_of (events ++ e ∷ []) ≡ option_or (lead_in e.body) (lead_of events)
lead-push events e = ap (option_map (λ p. p.lead)) (plan-push events e) ∙ map_or (λ p. p.lead) (plan_in e.body) (plan events)

-- the state goes along with the events
pub journey_state-push : (events : List Event) (e : Event) → journey_state (events ++ e ∷ []) ≡ journey_state_after (journey_state events) e
journey_state-push events e =
    let stages = stage-push events e in
    let indexes = leg_index-push events e in
    let courses = legs-push events e in
    let leads = lead-push events e in
    let departures = any-push (λ d. is_departure d.body) events e in
    let deliveries = any-push (λ d. is_delivery d.body) events e in
    let takers = newest-push (λ d. new_responsible d.by d.body) events e in
    let yards = newest-push (λ d. yard_in d.body) events e in
    λ i. record { stage = stages i; leg_index = indexes i; legs = courses i; lead = leads i; has_departed = departures i; is_delivered = deliveries i; last_receiver = takers i; yard = yards i }

-- no check of the list applies
abbrev pub Passed : {A : Type 0} → List (Bool × A) → Type 0
Passed [] = Unit {0}
Passed (c ∷ checks) = (c.0 ≡ false) × Passed checks

some_is_none : {A : Type 0} (a : A) → Some a ≡ None → ⊥
some_is_none a h = cc

pub passed : {A : Type 0} (checks : List (Bool × A)) → first_of checks ≡ None → Passed checks
passed [] h = tt
passed (c ∷ checks) h = elim (cases_Bool c.0) [
  | inl e ↦ absurd (some_is_none c.1 (rw e at h))
  | inr e ↦ (e, passed checks (rw e at h))
]

-- new legs that pass the checks are not too many
pub has_room : (s : JourneyState) (by : Railway) (body : EventBody) → first_of (checks s by body) ≡ None → HasRoom s.leg_index body
has_room s by (Rerouted route) r = let p = passed (route_checks s by route) r in ltb-false 8 (s.leg_index + 1 + length route) p.1.1.1.1.0
has_room s by _ r = tt

-- a leg that a railway runs is there
leg_is_there : (ls : List Leg) (i : ℕ) (by : Railway) → is_text (option_map (λ l. l.ru) (slice_get ls i)) by ≡ true → i < length ls
leg_is_there [] i by h = cc
leg_is_there (l ∷ ls) zero by h = omega arith
leg_is_there (l ∷ ls) (suc i) by h = let k = leg_is_there ls i by h in omega arith

-- the wagon is offered
stage_offered : (o : Option Stage) → (option_eq same_stage o (Some stage_is.Offered) || false) ≡ true → o ≡ Some stage_is.Offered
stage_offered (Some stage_is.Offered) h = refl
stage_offered _ h = cc

-- an event that leaves the leg index and the number of legs
kept : (s : JourneyState) (e : Event) → IsSound s → is_reception e.body ≡ false → length (legs_after s.leg_index s.legs e.body) ≡ length s.legs →
    (option_or (stage_after e.body) s.stage ≡ Some stage_is.Offered → s.leg_index + 1 < length s.legs) → IsSound (journey_state_after s e)
kept s e k r l n =
    let index : index_after s.leg_index e.body ≡ s.leg_index = ap (λ b. s.leg_index + cond b 1 0) r ∙ add-zero s.leg_index in
    record {
      staged = some_right (stage_after e.body) s.stage k.staged;
      on_a_leg = let a = k.on_a_leg in omega arith;
      few_legs = let a = k.few_legs in omega arith;
      next_leg = λ h. let a = n h in omega arith;
    }

abbrev an : Railway → ℕ → Option ℕ → EventBody → Event
an by number at body = record { by = by; no = number; at = at; body = body }

sound_said : (s : JourneyState) (by : Railway) (number : ℕ) (at : Option ℕ) (body : EventBody) → IsSound s → first_of (checks s by body) ≡ None → IsSound (journey_state_after s (an by number at body))
sound_said s by number at (Planned plan) k r = cc
sound_said s by number at (Moved (Exception delay)) k r = kept s (an by number at (Moved (Exception delay))) k refl refl k.next_leg
sound_said s by number at (Moved Estimate) k r = kept s (an by number at (Moved Estimate)) k refl refl k.next_leg
sound_said s by number at EstimateAsked k r = kept s (an by number at EstimateAsked) k refl refl k.next_leg
sound_said s by number at (LegTimed leg minutes) k r = kept s (an by number at (LegTimed leg minutes)) k refl (timed_length s.legs leg minutes) k.next_leg
sound_said s by number at (Offered place to) k r =
    let p = passed (checks s by (Offered place to)) r in
    kept s (an by number at (Offered place to)) k refl refl (λ h. leg_is_there s.legs (s.leg_index + 1) to (not-false _ p.1.1.1.0))
sound_said s by number at (Answered place true) k r =
    let p = passed (checks s by (Answered place true)) r in
    record { staged = refl; on_a_leg = k.next_leg (stage_offered s.stage (not-false _ p.0)); few_legs = k.few_legs; next_leg = λ h. cc }
sound_said s by number at (Rerouted route) k r =
    let length_is = rerouted_length s.legs route s.leg_index k.on_a_leg in
    let room : s.leg_index + 1 + length route ≤ 8 = has_room s by (Rerouted route) r in
    record { staged = k.staged; on_a_leg = omega arith; few_legs = omega arith; next_leg = λ h. absurd (some_is_none _ (rw h at r)) }
sound_said s by number at body k r = kept s (an by number at body) k refl refl (λ h. cc)

-- an event that may come next leaves the state sound
pub sound-after : (s : JourneyState) (e : Event) → IsSound s → first_of (checks s e.by e.body) ≡ None → IsSound (journey_state_after s e)
sound-after s e k r = sound_said s e.by e.no e.at e.body k r

-- no plan comes after the first event
no_plan : (s : JourneyState) (by : Railway) (body : EventBody) → first_of (checks s by body) ≡ None → (plan_in body ≡ None) × (is_plan body ≡ false)
no_plan s by (Planned plan) r = absurd (some_is_none _ r)
no_plan s by _ r = (refl, refl)

has_later_plan-push : (events : List Event) (e : Event) → is_some (first_plan events) ≡ true → has_later_plan (events ++ e ∷ []) ≡ (has_later_plan events || is_plan e.body)
has_later_plan-push [] e h = cc
has_later_plan-push (d ∷ events) e h = any-push (λ x. is_plan x.body) events e

first_plan-push : (events : List Event) (e : Event) → is_some (first_plan events) ≡ true → first_plan (events ++ e ∷ []) ≡ first_plan events
first_plan-push [] e h = cc
first_plan-push (d ∷ events) e h = refl

-- an event that may come next leaves the plan
pub plan-kept : (events : List Event) (e : Event) → first_of (checks (journey_state events) e.by e.body) ≡ None → plan (events ++ e ∷ []) ≡ plan events
plan-kept events e r = plan-push events e ∙ ap (λ p. option_or p (plan events)) ((no_plan (journey_state events) e.by e.body r).0)

have_room_from : (c : ℕ) (events : List Event) (e : Event) → HaveRoom c events → HasRoom (fold (λ a d. a + cond (is_reception d.body) 1 0) c events) e.body → HaveRoom c (events ++ e ∷ [])
have_room_from c [] e h k = (k, tt)
have_room_from c (d ∷ events) e h k = (h.0, have_room_from (index_after c d.body) events e h.1 k)

-- what a track keeps goes along with its events
pub kept-push : (events : List Event) (s next : JourneyState) (e : Event) → IsTrackState events s → first_of (checks (journey_state events) e.by e.body) ≡ None → next ≡ journey_state_after s e → IsTrackState (events ++ e ∷ []) next
kept-push events s next e k r is =
    let first = first_plan-push events e k.planned in
    let admitted : first_of (checks s e.by e.body) ≡ None = ap (λ t. first_of (checks t e.by e.body)) k.state_is ∙ r in
    let no_plan_here = (no_plan (journey_state events) e.by e.body r).1 in
    record {
      planned = ap is_some first ∙ k.planned;
      one_plan = plan-kept events e r ∙ k.one_plan ∙ sym first;
      no_later_plan = has_later_plan-push events e k.planned ∙ ap (λ b. has_later_plan events || b) no_plan_here ∙ ap (λ b. b || false) k.no_later_plan;
      is_journey = journey-push events e k.is_journey r;
      have_room = have_room_from 0 events e k.have_room (has_room (journey_state events) e.by e.body r);
      state_is = is ∙ ap (λ t. journey_state_after t e) k.state_is ∙ sym (journey_state-push events e);
      sound = rw is (sound-after s e k.sound admitted);
    }

-- an event that may come next has room for its legs
pub room-kept : (events : List Event) (s : JourneyState) (e : Event) → IsTrackState events s → first_of (checks (journey_state events) e.by e.body) ≡ None → HasRoom s.leg_index e.body
room-kept events s e k r = has_room s e.by e.body (ap (λ t. first_of (checks t e.by e.body)) k.state_is ∙ r)
