-- The railway that answers for a wagon runs the leg that the wagon is on.
use Rattle.hub_model.proofs.Common.{◌≡◌, ℕ, ◌+◌, zero, suc, Bool, true, false, cond, not, List, [], ◌∷◌, ◌++◌, take, Option, Some, None, refl, ap, ◌∙◌, sym, subst, inl, inr, ◌&&◌, ◌||◌, option_map, option_or, slice_get, unwrap_or, false≢true, true≢false, cond_both, none-some, cond_some, not-false, Railway, Place, Leg, has, MovementKind, Release, Departure, YardArrival, YardDeparture, Exception, Estimate, Arrival, Delivery, WrongStage, TrainOffer, Body, Event, EventBody, Planned, Moved, EstimateAsked, LegTimed, Offered, Answered, Withdrawn, Rerouted, newest, stage, stage_after, moved_to, leg_index, is_plan, is_reception, is_departure, is_delivery, is_delivered, has_departed, new_responsible, responsible, legs, legs_after, with_leg_minutes, runner_of, refusal, checks, movement_checks, journey_state, passed, stage-push, leg_index-push, legs-push, leg_index-kept, in_offer, stage_in_offer, asked_by, wagons_of, same_name, moment_in, HubState, new_state, named_wagons, event_for, event_body_for, with_event, journey_after, fault, offer_given, opening_given, after_acceptance, ResponsibleRunsTheLeg}
use Rattle.taf_messages.specs.declared.message.Body.TheVariants as body
use Rattle.taf_messages.specs.declared.record.Stage.TheVariants as stage_is
use Rattle.hub_model.proofs.NoFaultLemmas.{msg, goes_on, known_allowed, planned_anew, no_known_fault, no_whole_fault, answer_fits, listed}
use Rattle.hub_model.proofs.SoundnessLemmas.{all_known, plan_or_not, open_before}
use Rattle.hub_model.proofs.JourneyLengthLemmas.{IsTrackState, kept_from, each_any}
use Rattle.hub_model.proofs.ResponsibleEventLemmas.{is_early, planned_early, released_early, text_is, responsible-push}
use Rattle.hub_model.proofs.ConsentLemmas.{AreConsistent, kept_consistent, all_nothing, asked_answers}
use Rattle.hub_model.proofs.DependencyLemmas.{has-left}
use Rattle.hub_model.proofs.NeedToKnowLemmas.{kept_leg}

-- a planned or released wagon is on its first leg, and the responsible railway runs the leg that the wagon is on
pub record IsOnItsLeg (events : List Event) : Type 0 where
  pub begins : is_early (stage events) ≡ true → leg_index events ≡ 0
  pub runs : (r : Railway) → responsible events ≡ Some r → runner_of events (leg_index events) ≡ Some r

abbrev runner_in_legs : List Leg → ℕ → Option Railway
runner_in_legs ls i = option_map (λ l. l.ru) (slice_get ls i)

-- an event that sets no legs
abbrev SetsNoLegs : EventBody → Type 0
SetsNoLegs (Planned p) = ⊥
SetsNoLegs (Rerouted route) = ⊥
SetsNoLegs _ = Unit {0}

timed_runner : (ls : List Leg) (t minutes i : ℕ) → runner_in_legs (with_leg_minutes ls t minutes) i ≡ runner_in_legs ls i
timed_runner [] t minutes i = refl
timed_runner (l ∷ ls) zero minutes zero = refl
timed_runner (l ∷ ls) zero minutes (suc i) = refl
timed_runner (l ∷ ls) (suc t) minutes zero = refl
timed_runner (l ∷ ls) (suc t) minutes (suc i) = timed_runner ls t minutes i

runner_after : (c : ℕ) (ls : List Leg) (says : EventBody) (i : ℕ) → SetsNoLegs says → runner_in_legs (legs_after c ls says) i ≡ runner_in_legs ls i
runner_after c ls (Planned p) i n = absurd n
runner_after c ls (Rerouted route) i n = absurd n
runner_after c ls (LegTimed t minutes) i n = timed_runner ls t minutes i
runner_after c ls _ i n = refl

runner-push : (events : List Event) (e : Event) (i : ℕ) → SetsNoLegs e.body → runner_of (events ++ e ∷ []) i ≡ runner_of events i
runner-push events e i n = ap (λ ls. runner_in_legs ls i) (legs-push events e) ∙ runner_after (leg_index events) (legs events) e.body i n

-- a route leaves the railway of the current leg
kept_runner : (ls route : List Leg) (c : ℕ) (r : Railway) (o : Option Leg) → slice_get ls c ≡ o → option_map (λ l. l.ru) o ≡ Some r → runner_in_legs (take (c + 1) ls ++ route) c ≡ Some r
kept_runner ls route c r None e h = absurd (none-some r h)
kept_runner ls route c r (Some l) e h = ap (option_map (λ (k : Leg). k.ru)) (kept_leg ls route c l e) ∙ h

-- with an event by which nobody takes the wagon over, nobody becomes responsible
was_cases : (departed departs delivered delivers : Bool) (now last : Option Railway) (r : Railway) → departs ≡ false → now ≡ None →
    cond ((departed || departs) && not (delivered || delivers)) (option_or now last) None ≡ Some r → cond (departed && not delivered) last None ≡ Some r
was_cases departed true delivered delivers now last r d k h = absurd (true≢false d)
was_cases departed false delivered delivers (Some x) last r d k h = absurd (none-some x (sym k))
was_cases true false false false None last r d k h = h
was_cases true false false true None last r d k h = absurd (none-some r h)
was_cases true false true delivers None last r d k h = absurd (none-some r h)
was_cases false false delivered delivers None last r d k h = absurd (none-some r h)

was_responsible : (events : List Event) (e : Event) (r : Railway) → is_departure e.body ≡ false → new_responsible e.by e.body ≡ None → responsible (events ++ e ∷ []) ≡ Some r → responsible events ≡ Some r
was_responsible events e r d k h =
    was_cases (has_departed events) (is_departure e.body) (is_delivered events) (is_delivery e.body) (new_responsible e.by e.body) (newest (λ x. new_responsible x.by x.body) events) r d k (sym (responsible-push events e) ∙ h)

abbrev an : Railway → ℕ → Option ℕ → EventBody → Event
an by number at says = record { by = by; no = number; at = at; body = says }

-- an event that may come next, and one that receives the wagon comes from the railway of the next leg
module _ (events : List Event) (on : IsOnItsLeg events) (by : Railway) (number : ℕ) (at : Option ℕ) where
  begins_moved : (what : MovementKind) → refusal events by (Moved what) ≡ None → is_early (option_or (moved_to what) (stage events)) ≡ true → leg_index events ≡ 0
  begins_moved Release r h = let p = passed (movement_checks (journey_state events) by Release) r in on.begins (planned_early (stage events) (not-false _ p.0))
  begins_moved Departure r h = absurd (false≢true h)
  begins_moved (YardArrival place) r h = absurd (false≢true h)
  begins_moved (YardDeparture place) r h = absurd (false≢true h)
  begins_moved (Exception delay) r h = on.begins h
  begins_moved Estimate r h = on.begins h
  begins_moved Arrival r h = absurd (false≢true h)
  begins_moved Delivery r h = absurd (false≢true h)

  begins_said : (says : EventBody) → refusal events by says ≡ None → is_early (option_or (stage_after says) (stage events)) ≡ true → leg_index events ≡ 0
  begins_said (Planned p) r h = cc
  begins_said (Moved what) r h = begins_moved what r h
  begins_said (Offered place to) r h = absurd (false≢true h)
  begins_said (Answered place received) r h = absurd (false≢true h)
  begins_said (Withdrawn place) r h = absurd (false≢true h)
  begins_said EstimateAsked r h = on.begins h
  begins_said (LegTimed leg minutes) r h = on.begins h
  begins_said (Rerouted route) r h = on.begins h

  -- and one that leads to such a stage receives no wagon
  early_receives_none : (says : EventBody) → is_early (option_or (stage_after says) (stage events)) ≡ true → is_reception says ≡ false
  early_receives_none (Answered place received) h = absurd (false≢true h)
  early_receives_none _ h = refl

  abbrev Runs : EventBody → Type 0
  Runs says = (r : Railway) → responsible (events ++ an by number at says ∷ []) ≡ Some r → runner_of (events ++ an by number at says ∷ []) (leg_index (events ++ an by number at says ∷ [])) ≡ Some r

  -- an event that leaves leg index and railways
  runs_on : (says : EventBody) → is_departure says ≡ false → new_responsible by says ≡ None → is_reception says ≡ false → SetsNoLegs says → Runs says
  runs_on says d k q n r h =
      let e = an by number at says in
      ap (runner_of (events ++ e ∷ [])) (leg_index-kept events e q) ∙ runner-push events e (leg_index events) n ∙ on.runs r (was_responsible events e r d k h)

  runs_departed : refusal events by (Moved Departure) ≡ None → Runs (Moved Departure)
  runs_departed f r h =
      let e = an by number at (Moved Departure) in
      let p = passed (movement_checks (journey_state events) by Departure) f in
      let first = on.begins (released_early (stage events) (not-false _ p.0)) in
      let own : by ≡ r = (cond_some _ by r (sym (responsible-push events e) ∙ h)).1 in
      ap (runner_of (events ++ e ∷ [])) (leg_index-kept events e refl ∙ first) ∙ runner-push events e 0 tt ∙ text_is (runner_of events 0) by (not-false _ p.1.0) ∙ ap Some own

  runs_moved : (what : MovementKind) → refusal events by (Moved what) ≡ None → Runs (Moved what)
  runs_moved Departure f = runs_departed f
  runs_moved Release f = runs_on (Moved Release) refl refl refl tt
  runs_moved (YardArrival place) f = runs_on (Moved (YardArrival place)) refl refl refl tt
  runs_moved (YardDeparture place) f = runs_on (Moved (YardDeparture place)) refl refl refl tt
  runs_moved (Exception delay) f = runs_on (Moved (Exception delay)) refl refl refl tt
  runs_moved Estimate f = runs_on (Moved Estimate) refl refl refl tt
  runs_moved Arrival f = runs_on (Moved Arrival) refl refl refl tt
  runs_moved Delivery f = runs_on (Moved Delivery) refl refl refl tt

  runs_answered : (place : Place) (received : Bool) → (received ≡ true → runner_of events (leg_index events + 1) ≡ Some by) → Runs (Answered place received)
  runs_answered place false next r h = runs_on (Answered place false) refl refl refl tt r h
  runs_answered place true next r h =
      let e = an by number at (Answered place true) in
      let own : by ≡ r = (cond_some _ by r (sym (responsible-push events e) ∙ h)).1 in
      ap (runner_of (events ++ e ∷ [])) (leg_index-push events e) ∙ runner-push events e (leg_index events + 1) tt ∙ next refl ∙ ap Some own

  runs_rerouted : (route : List Leg) → Runs (Rerouted route)
  runs_rerouted route r h =
      let e = an by number at (Rerouted route) in
      ap (runner_of (events ++ e ∷ [])) (leg_index-kept events e refl) ∙
      ap (λ ls. runner_in_legs ls (leg_index events)) (legs-push events e) ∙
      kept_runner (legs events) route (leg_index events) r (slice_get (legs events) (leg_index events)) refl (on.runs r (was_responsible events e r refl refl h))

  runs_said : (says : EventBody) → refusal events by says ≡ None → (is_reception says ≡ true → runner_of events (leg_index events + 1) ≡ Some by) → Runs says
  runs_said (Planned p) f next r h = cc
  runs_said (Moved what) f next r h = runs_moved what f r h
  runs_said EstimateAsked f next r h = runs_on EstimateAsked refl refl refl tt r h
  runs_said (LegTimed leg minutes) f next r h = runs_on (LegTimed leg minutes) refl refl refl tt r h
  runs_said (Offered place to) f next r h = runs_on (Offered place to) refl refl refl tt r h
  runs_said (Answered place received) f next r h = runs_answered place received next r h
  runs_said (Withdrawn place) f next r h = runs_on (Withdrawn place) refl refl refl tt r h
  runs_said (Rerouted route) f next r h = runs_rerouted route r h

  on_its_leg-push : (says : EventBody) → refusal events by says ≡ None → (is_reception says ≡ true → runner_of events (leg_index events + 1) ≡ Some by) → IsOnItsLeg (events ++ an by number at says ∷ [])
  on_its_leg-push says f next =
      let e = an by number at says in
      record {
        begins = λ h.
            let early : is_early (option_or (stage_after says) (stage events)) ≡ true = ap is_early (sym (stage-push events e)) ∙ h in
            leg_index-kept events e (early_receives_none says early) ∙ begins_said says f early;
        runs = runs_said says f next;
      }

-- a plan puts the wagon on its first leg
on_its_leg_anew : (by : Railway) (number : ℕ) (at : Option ℕ) (says : EventBody) → is_plan says ≡ true → IsOnItsLeg (an by number at says ∷ [])
on_its_leg_anew by number at (Planned p) h = record { begins = λ e. refl; runs = λ r e. absurd (none-some r e) }
on_its_leg_anew by number at _ h = absurd (false≢true h)

-- an event that leaves the wagon offered
stays_offered : (events : List Event) (by : Railway) (says : EventBody) → stage events ≡ Some stage_is.Offered → refusal events by says ≡ None → option_or (stage_after says) (stage events) ≡ Some stage_is.Offered →
    (is_reception says ≡ false) × SetsNoLegs says
stays_offered events by (Planned p) o r h = cc
stays_offered events by (Answered place received) o r h = cc
stays_offered events by (Rerouted route) o r h = let z : Some WrongStage ≡ None = rw o at r in cc
stays_offered events by _ o r h = (refl, tt)

-- leaves the railway of its next leg
next_kept : (events : List Event) (e : Event) → stage events ≡ Some stage_is.Offered → refusal events e.by e.body ≡ None → stage (events ++ e ∷ []) ≡ Some stage_is.Offered →
    runner_of (events ++ e ∷ []) (leg_index (events ++ e ∷ []) + 1) ≡ runner_of events (leg_index events + 1)
next_kept events e o r h =
    let kept = stays_offered events e.by e.body o r (sym (stage-push events e) ∙ h) in
    ap (λ i. runner_of (events ++ e ∷ []) (i + 1)) (leg_index-kept events e kept.0) ∙ runner-push events e (leg_index events + 1) kept.1

-- each wagon is on its leg, and an open offer asks the railway of the next leg of each of its wagons
pub record RunTheirLegs (s : HubState) : Type 0 where
  pub all : AreConsistent s
  pub each : (w : ℕ) → IsOnItsLeg (s.journey w)
  pub asked : (by : Railway) (n w : ℕ) → s.is_open by n ≡ true → has (wagons_of (s.offer by n)) w ≡ true → runner_of (s.journey w) (leg_index (s.journey w) + 1) ≡ asked_by (s.offer by n)

module _ (s : HubState) (k : RunTheirLegs s) (by : Railway) (number : ℕ) where
  -- whoever receives a wagon runs its next leg
  receives_next : (says : Body) (w : ℕ) → fault s (msg by number says) ≡ None → is_reception (event_body_for s.offer by says w) ≡ true → runner_of (s.journey w) (leg_index (s.journey w) + 1) ≡ Some by
  receives_next (body.Answer a) w f h =
      let whole = no_whole_fault s (msg by number (body.Answer a)) f in
      let fits = answer_fits s by a whole in
      let inside = listed (wagons_of (s.offer a.offerer a.offer)) (a.received ++ a.refused) w fits.1 (has-left a.received a.refused w h) in
      k.asked a.offerer a.offer w fits.0 inside ∙ asked_answers s by a whole
  receives_next (body.Plan p) w f h = absurd (false≢true h)
  receives_next (body.Movement m) w f h = absurd (false≢true h)
  receives_next (body.EtiAsk v) w f h = absurd (false≢true h)
  receives_next (body.LegTime v leg minutes) w f h = absurd (false≢true h)
  receives_next (body.Offer o) w f h = absurd (false≢true h)
  receives_next (body.Withdraw at n) w f h = absurd (false≢true h)
  receives_next (body.Reroute v route) w f h = absurd (false≢true h)

  on_its_leg_after : (says : Body) → fault s (msg by number says) ≡ None → (w : ℕ) → IsOnItsLeg (journey_after s (msg by number says) w)
  on_its_leg_after says f w =
      let m = msg by number says in
      let events = s.journey w in
      let e = event_for s.offer m w in
      cond_both (has (named_wagons s.offer m) w) (with_event events e) events IsOnItsLeg
      (λ n. elim (plan_or_not s.offer by says w) [
        | inl p ↦ subst IsOnItsLeg (sym (planned_anew events e p)) (on_its_leg_anew by number (moment_in says) (event_body_for s.offer by says w) p)
        | inr p ↦
            (let known = all_known s k.all.sound by number says w p f n in
            subst IsOnItsLeg (sym (goes_on events e known))
            (on_its_leg-push events (k.each w) by number (moment_in says) (event_body_for s.offer by says w) (known_allowed events by (event_body_for s.offer by says w) known) (receives_next says w f)))
      ])
      (λ n. k.each w)

  -- a wagon that stays in an open offer
  stays_asked : (says : Body) → fault s (msg by number says) ≡ None → (b : Railway) (n w : ℕ) → s.is_open b n ≡ true → has (wagons_of (s.offer b n)) w ≡ true → in_offer (journey_after s (msg by number says) w) ≡ Some (b, n) →
      runner_of (journey_after s (msg by number says) w) (leg_index (journey_after s (msg by number says) w) + 1) ≡ asked_by (s.offer b n)
  stays_asked says f b n w opened inside =
      let m = msg by number says in
      let events = s.journey w in
      let e = event_for s.offer m w in
      let before = k.asked b n w opened inside in
      let Next : List Event → Type 0 = λ later. in_offer later ≡ Some (b, n) → runner_of later (leg_index later + 1) ≡ asked_by (s.offer b n) in
      cond_both (has (named_wagons s.offer m) w) (with_event events e) events Next
      (λ named. elim (plan_or_not s.offer by says w) [
        | inl p ↦ subst Next (sym (planned_anew events e p)) (λ still. absurd (not_anew (event_body_for s.offer by says w) (moment_in says) p (b, n) still))
        | inr p ↦
            (let known = all_known s k.all.sound by number says w p f named in
            subst Next (sym (goes_on events e known)) (λ still.
            next_kept events e (stage_in_offer events (b, n) (k.all.sound.offered b n w opened inside)) (known_allowed events by (event_body_for s.offer by says w) known) (stage_in_offer (events ++ e ∷ []) (b, n) still) ∙ before))
      ])
      (λ named still. before)
    where
      not_anew : (what : EventBody) (at : Option ℕ) → is_plan what ≡ true → (x : Railway × ℕ) → in_offer (an by number at what ∷ []) ≡ Some x → ⊥
      not_anew (Planned p) at h x i = none-some x i
      not_anew _ at h x i = false≢true h

  -- a new offer
  offer_asked : (o : TrainOffer) → fault s (msg by number (body.Offer o)) ≡ None → (b : Railway) (n w : ℕ) (c : Bool) → unwrap_or (cond c (Some true) None) (s.is_open b n) ≡ true →
      has (wagons_of (option_or (cond c (Some (record { by = by; no = number; to = o.to; place = o.place; wagons = o.wagons })) None) (s.offer b n))) w ≡ true → in_offer (journey_after s (msg by number (body.Offer o)) w) ≡ Some (b, n) →
      runner_of (journey_after s (msg by number (body.Offer o)) w) (leg_index (journey_after s (msg by number (body.Offer o)) w) + 1) ≡
      asked_by (option_or (cond c (Some (record { by = by; no = number; to = o.to; place = o.place; wagons = o.wagons })) None) (s.offer b n))
  offer_asked o f b n w false opened inside still = stays_asked (body.Offer o) f b n w opened inside still
  offer_asked o f b n w true opened inside still =
      let m = msg by number (body.Offer o) in
      let events = s.journey w in
      let e = event_for s.offer m w in
      let known = no_known_fault s by number (body.Offer o) w tt f inside in
      let p = passed (checks (journey_state events) by (Offered o.place o.to)) (known_allowed events by (Offered o.place o.to) known) in
      let later : journey_after s m w ≡ events ++ e ∷ [] = ap (λ y. cond y (with_event events e) events) inside ∙ goes_on events e known in
      ap (λ es. runner_of es (leg_index es + 1)) later ∙
      ap (λ i. runner_of (events ++ e ∷ []) (i + 1)) (leg_index-kept events e refl) ∙ runner-push events e (leg_index events + 1) tt ∙
      text_is (runner_of events (leg_index events + 1)) o.to (not-false _ p.1.1.1.0)

  asked_said : (says : Body) → fault s (msg by number says) ≡ None → (b : Railway) (n w : ℕ) → unwrap_or (opening_given (msg by number says) says b n) (s.is_open b n) ≡ true →
      has (wagons_of (option_or (offer_given (msg by number says) says b n) (s.offer b n))) w ≡ true → in_offer (journey_after s (msg by number says) w) ≡ Some (b, n) →
      runner_of (journey_after s (msg by number says) w) (leg_index (journey_after s (msg by number says) w) + 1) ≡ asked_by (option_or (offer_given (msg by number says) says b n) (s.offer b n))
  asked_said (body.Offer o) f b n w opened inside still = offer_asked o f b n w (same_name by number b n) opened inside still
  asked_said (body.Answer a) f b n w opened inside still = stays_asked (body.Answer a) f b n w ((open_before (same_name a.offerer a.offer b n) (s.is_open b n) opened).1) inside still
  asked_said (body.Withdraw at i) f b n w opened inside still = stays_asked (body.Withdraw at i) f b n w ((open_before (same_name by i b n) (s.is_open b n) opened).1) inside still
  asked_said (body.Plan p) f b n w opened inside still = stays_asked (body.Plan p) f b n w opened inside still
  asked_said (body.Movement m) f b n w opened inside still = stays_asked (body.Movement m) f b n w opened inside still
  asked_said (body.EtiAsk v) f b n w opened inside still = stays_asked (body.EtiAsk v) f b n w opened inside still
  asked_said (body.LegTime v leg minutes) f b n w opened inside still = stays_asked (body.LegTime v leg minutes) f b n w opened inside still
  asked_said (body.Reroute v route) f b n w opened inside still = stays_asked (body.Reroute v route) f b n w opened inside still

kept_run : IsTrackState (λ m. Unit {0}) RunTheirLegs
kept_run = record {
  accepts = λ s m d f k.
      let later : AreConsistent (after_acceptance s m) = kept_consistent.accepts s m d f k.all in
      record {
        all = later;
        each = λ w. on_its_leg_after s k m.by m.no m.body f w;
        asked = λ b n w opened inside. asked_said s k m.by m.no m.body f b n w opened inside (later.sound.offered b n w opened inside);
      };
  notes = λ s m reply k. record { all = kept_consistent.notes s m reply k.all; each = k.each; asked = k.asked };
  acks = λ s by n k. record { all = kept_consistent.acks s by n k.all; each = k.each; asked = k.asked };
}

run_nothing : RunTheirLegs new_state
run_nothing = record { all = all_nothing; each = λ w. record { begins = λ h. refl; runs = λ r h. absurd (none-some r h) }; asked = λ b n w opened inside. absurd (false≢true opened) }

pub responsible_runs_the_leg : ResponsibleRunsTheLeg
responsible_runs_the_leg history legal w r h = ((kept_from (λ m. Unit {0}) RunTheirLegs kept_run new_state history legal (each_any history) run_nothing).each w).runs r h
