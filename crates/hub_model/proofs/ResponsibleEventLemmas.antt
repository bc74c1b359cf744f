-- What one more event of a journey changes of the responsible railway.
use Rattle.hub_model.proofs.Common.{◌≡◌, ◌⊎◌, ℕ, Bool, true, false, cond, not, List, [], ◌∷◌, ◌++◌, Option, Some, None, refl, ap, ◌∙◌, sym, inl, inr, ◌&&◌, ◌||◌, is_some, option_or, option_eq, option_flatten, false≢true, true≢false, false_from_ne_true, StaysDelivered, Place, not-false, not_from_true, or_from, and_right, cond-false, none-some, same_Some, cond_some, list_any-append, bytes_eq-Decides, Railway, is_text, MovementKind, Release, Departure, YardArrival, YardDeparture, Exception, Estimate, Arrival, Delivery, Stage, Event, EventBody, Planned, Moved, EstimateAsked, LegTimed, Offered, Answered, Withdrawn, Rerouted, newest, stage, stage_after, moved_to, has_departed, is_departure, is_delivered, is_delivery, is_reception, is_plan, new_responsible, responsible, journey_state, responsible_in, checks, movement_checks, refusal, same_stage, stage-push, in_offer, offering, offering_by, in_offer-push, journey_state-push, passed, taken_by}
use Rattle.taf_messages.specs.declared.record.Stage.TheVariants as stage_is

-- before the departure
abbrev pub is_early : Option Stage → Bool
is_early (Some stage_is.Planned) = true
is_early (Some stage_is.Released) = true
is_early _ = false

-- a wagon that is planned or released has not departed, and the railway that made the offer it is in answers for it
pub record IsConsistent (events : List Event) : Type 0 where
  pub waits : is_early (stage events) ≡ true → has_departed events ≡ false
  pub offerer : (x : Railway × ℕ) → in_offer events ≡ Some x → responsible events ≡ Some x.0

pub text_is : (o : Option Railway) (by : Railway) → is_text o by ≡ true → o ≡ Some by
text_is None by h = absurd (false≢true h)
text_is (Some x) by h = ap Some ((bytes_eq-Decides x by).0 h)

-- a stage that is one of these
pub planned_early : (o : Option Stage) → (option_eq same_stage o (Some stage_is.Planned) || false) ≡ true → is_early o ≡ true
planned_early (Some stage_is.Planned) h = refl
planned_early (Some stage_is.Released) h = refl
planned_early (Some stage_is.Running) h = absurd (false≢true h)
planned_early (Some stage_is.InYard) h = absurd (false≢true h)
planned_early (Some stage_is.Offered) h = absurd (false≢true h)
planned_early (Some stage_is.Arrived) h = absurd (false≢true h)
planned_early (Some stage_is.Delivered) h = absurd (false≢true h)
planned_early None h = absurd (false≢true h)

pub released_early : (o : Option Stage) → (option_eq same_stage o (Some stage_is.Released) || false) ≡ true → is_early o ≡ true
released_early (Some stage_is.Planned) h = refl
released_early (Some stage_is.Released) h = refl
released_early (Some stage_is.Running) h = absurd (false≢true h)
released_early (Some stage_is.InYard) h = absurd (false≢true h)
released_early (Some stage_is.Offered) h = absurd (false≢true h)
released_early (Some stage_is.Arrived) h = absurd (false≢true h)
released_early (Some stage_is.Delivered) h = absurd (false≢true h)
released_early None h = absurd (false≢true h)

-- the responsible railway after one more event
pub responsible-push : (events : List Event) (e : Event) → responsible (events ++ e ∷ []) ≡
    cond ((has_departed events || is_departure e.body) && not (is_delivered events || is_delivery e.body)) (option_or (new_responsible e.by e.body) (newest (λ d. new_responsible d.by d.body) events)) None
responsible-push events e = ap responsible_in (journey_state-push events e)

quiet_cases : (departed delivered : Bool) (last : Option Railway) → cond ((departed || false) && not (delivered || false)) last None ≡ cond (departed && not delivered) last None
quiet_cases true true last = refl
quiet_cases true false last = refl
quiet_cases false delivered last = refl

-- an event that is neither departure nor delivery, and with which nobody takes the wagon over
quiet_parts : (departed departs delivered delivers : Bool) (now last : Option Railway) → departs ≡ false → delivers ≡ false → now ≡ None →
    cond ((departed || departs) && not (delivered || delivers)) (option_or now last) None ≡ cond ((departed || false) && not (delivered || false)) last None
quiet_parts departed departs delivered delivers now last d l k = λ i. cond ((departed || d i) && not (delivered || l i)) (option_or (k i) last) None

stays : (events : List Event) (e : Event) → is_departure e.body ≡ false → is_delivery e.body ≡ false → new_responsible e.by e.body ≡ None → responsible (events ++ e ∷ []) ≡ responsible events
stays events e d l k =
    let last : Option Railway = newest (λ x. new_responsible x.by x.body) events in
    responsible-push events e ∙
    quiet_parts (has_departed events) (is_departure e.body) (is_delivered events) (is_delivery e.body) (new_responsible e.by e.body) last d l k ∙
    quiet_cases (has_departed events) (is_delivered events) last

-- nothing but the departure notice follows on a planned or released wagon and has it depart
waits_moved : (events : List Event) (by : Railway) (what : MovementKind) → refusal events by (Moved what) ≡ None → (is_early (stage events) ≡ true → has_departed events ≡ false) →
    is_early (option_or (moved_to what) (stage events)) ≡ true → (has_departed events || (is_departure (Moved what) || false)) ≡ false
waits_moved events by Release r k h =
    let p = passed (movement_checks (journey_state events) by Release) r in
    or_from _ _ (k (planned_early (stage events) (not-false _ p.0))) refl
waits_moved events by Departure r k h = absurd (false≢true h)
waits_moved events by (YardArrival place) r k h = absurd (false≢true h)
waits_moved events by (YardDeparture place) r k h = absurd (false≢true h)
waits_moved events by (Exception delay) r k h = or_from _ _ (k h) refl
waits_moved events by Estimate r k h = or_from _ _ (k h) refl
waits_moved events by Arrival r k h = absurd (false≢true h)
waits_moved events by Delivery r k h = absurd (false≢true h)

waits_said : (events : List Event) (by : Railway) (says : EventBody) → refusal events by says ≡ None → (is_early (stage events) ≡ true → has_departed events ≡ false) →
    is_early (option_or (stage_after says) (stage events)) ≡ true → (has_departed events || (is_departure says || false)) ≡ false
waits_said events by (Planned p) r k h = cc
waits_said events by (Moved what) r k h = waits_moved events by what r k h
waits_said events by (Offered place to) r k h = absurd (false≢true h)
waits_said events by (Answered place received) r k h = absurd (false≢true h)
waits_said events by (Withdrawn place) r k h = absurd (false≢true h)
waits_said events by EstimateAsked r k h = or_from _ _ (k h) refl
waits_said events by (LegTimed leg minutes) r k h = or_from _ _ (k h) refl
waits_said events by (Rerouted route) r k h = or_from _ _ (k h) refl

abbrev an : Railway → ℕ → Option ℕ → EventBody → Event
an by number at says = record { by = by; no = number; at = at; body = says }

-- a wagon that is still in its offer, or is put into one
offerer_moved : (events : List Event) (by : Railway) (number : ℕ) (at : Option ℕ) (what : MovementKind) → ((x : Railway × ℕ) → in_offer events ≡ Some x → responsible events ≡ Some x.0) →
    (x : Railway × ℕ) → option_flatten (option_or (offering by number (Moved what)) (newest offering_by events)) ≡ Some x → responsible (events ++ an by number at (Moved what) ∷ []) ≡ Some x.0
offerer_moved events by number at Release k x h = absurd (none-some x h)
offerer_moved events by number at Departure k x h = absurd (none-some x h)
offerer_moved events by number at (YardArrival place) k x h = absurd (none-some x h)
offerer_moved events by number at (YardDeparture place) k x h = absurd (none-some x h)
offerer_moved events by number at (Exception delay) k x h = stays events (an by number at (Moved (Exception delay))) refl refl refl ∙ k x h
offerer_moved events by number at Estimate k x h = stays events (an by number at (Moved Estimate)) refl refl refl ∙ k x h
offerer_moved events by number at Arrival k x h = absurd (none-some x h)
offerer_moved events by number at Delivery k x h = absurd (none-some x h)

offerer_said : (events : List Event) (by : Railway) (number : ℕ) (at : Option ℕ) (says : EventBody) → refusal events by says ≡ None →
    ((x : Railway × ℕ) → in_offer events ≡ Some x → responsible events ≡ Some x.0) →
    (x : Railway × ℕ) → option_flatten (option_or (offering by number says) (newest offering_by events)) ≡ Some x → responsible (events ++ an by number at says ∷ []) ≡ Some x.0
offerer_said events by number at (Planned p) r k x h = cc
offerer_said events by number at (Moved what) r k x h = offerer_moved events by number at what k x h
offerer_said events by number at (Offered place to) r k x h =
    let p = passed (checks (journey_state events) by (Offered place to)) r in
    let same : Path (Railway × ℕ) (by, number) x = same_Some (by, number) x h in
    stays events (an by number at (Offered place to)) refl refl refl ∙ text_is (responsible events) by (not-false _ p.1.0) ∙ ap (λ (y : Railway × ℕ). Some y.0) same
offerer_said events by number at (Answered place received) r k x h = absurd (none-some x h)
offerer_said events by number at (Withdrawn place) r k x h = absurd (none-some x h)
offerer_said events by number at EstimateAsked r k x h = stays events (an by number at EstimateAsked) refl refl refl ∙ k x h
offerer_said events by number at (LegTimed leg minutes) r k x h = stays events (an by number at (LegTimed leg minutes)) refl refl refl ∙ k x h
offerer_said events by number at (Rerouted route) r k x h = stays events (an by number at (Rerouted route)) refl refl refl ∙ k x h

-- an event that may come next keeps that
pub consistent-push : (events : List Event) (e : Event) → refusal events e.by e.body ≡ None → IsConsistent events → IsConsistent (events ++ e ∷ [])
consistent-push events e r k = record {
  waits = λ h. list_any-append (λ d. is_departure d.body) events (e ∷ []) ∙ waits_said events e.by e.body r k.waits (ap is_early (sym (stage-push events e)) ∙ h);
  offerer = λ x h. offerer_said events e.by e.no e.at e.body r k.offerer x (sym (in_offer-push events e) ∙ h);
}

-- so does a plan, which begins the journey anew
pub consistent_anew : (by : Railway) (number : ℕ) (at : Option ℕ) (says : EventBody) → is_plan says ≡ true → IsConsistent (an by number at says ∷ [])
consistent_anew by number at (Planned p) h = record { waits = λ e. refl; offerer = λ x e. absurd (none-some x e) }
consistent_anew by number at _ h = absurd (false≢true h)

pub consistent_nothing : IsConsistent []
consistent_nothing = record { waits = λ e. refl; offerer = λ x e. absurd (none-some x e) }

-- and then nobody answers for it
pub none_anew : (by : Railway) (number : ℕ) (at : Option ℕ) (says : EventBody) → is_plan says ≡ true → responsible (an by number at says ∷ []) ≡ None
none_anew by number at (Planned p) h = refl
none_anew by number at _ h = absurd (false≢true h)

-- nor after the delivery
pub none_delivered : (events : List Event) → is_delivered events ≡ true → responsible events ≡ None
none_delivered events d = cond-false (has_departed events && not (is_delivered events)) (newest (λ d. new_responsible d.by d.body) events) None (and_right (has_departed events) (not (is_delivered events)) (not_from_true (is_delivered events) d))

-- the railway that takes the wagon over is the sender
pub taker_is : (by : Railway) (says : EventBody) (r : Railway) → new_responsible by says ≡ Some r → by ≡ r
taker_is by (Moved Departure) r h = same_Some by r h
taker_is by (Answered place received) r h = (cond_some received by r h).1
taker_is by _ r h = absurd (none-some r h)

becomes_cases : (departed departs delivered delivers : Bool) (now last : Option Railway) (r : Railway) → (departs ≡ true → is_some now ≡ true) →
    cond ((departed || departs) && not (delivered || delivers)) (option_or now last) None ≡ Some r → (cond (departed && not delivered) last None ≡ Some r → ⊥) → now ≡ Some r
becomes_cases departed departs delivered delivers (Some x) last r t h n = ap Some ((cond_some ((departed || departs) && not (delivered || delivers)) x r h).1)
becomes_cases departed true delivered delivers None last r t h n = absurd (false≢true (t refl))
becomes_cases true false true delivers None last r t h n = absurd (none-some r h)
becomes_cases true false false true None last r t h n = absurd (none-some r h)
becomes_cases true false false false None last r t h n = absurd (n h)
becomes_cases false false delivered delivers None last r t h n = absurd (none-some r h)

-- whoever becomes responsible by an event takes the wagon over by it
pub event_becomes : (events : List Event) (e : Event) (r : Railway) → responsible (events ++ e ∷ []) ≡ Some r → (responsible events ≡ Some r → ⊥) → new_responsible e.by e.body ≡ Some r
event_becomes events e r h n =
    becomes_cases (has_departed events) (is_departure e.body) (is_delivered events) (is_delivery e.body) (new_responsible e.by e.body) (newest (λ d. new_responsible d.by d.body) events) r
    (taken_by e.by e.body) (sym (responsible-push events e) ∙ h) n

stops_cases : (departed departs delivered delivers : Bool) (now last : Option Railway) (r : Railway) → cond (departed && not delivered) last None ≡ Some r →
    (cond ((departed || departs) && not (delivered || delivers)) (option_or now last) None ≡ Some r → ⊥) → (delivers ≡ true) ⊎ (is_some now ≡ true)
stops_cases departed departs delivered true now last r h n = inl refl
stops_cases departed departs delivered false (Some x) last r h n = inr refl
stops_cases true departs true false None last r h n = absurd (none-some r h)
stops_cases true departs false false None last r h n = absurd (n h)
stops_cases false departs delivered false None last r h n = absurd (none-some r h)

-- a delivery notice is the responsible railway's own
own_delivery : (events : List Event) (by : Railway) (says : EventBody) (r : Railway) → is_delivery says ≡ true → refusal events by says ≡ None → responsible events ≡ Some r → by ≡ r
own_delivery events by (Moved Delivery) r d f h =
    let p = passed (movement_checks (journey_state events) by Delivery) f in
    same_Some by r (sym (text_is (responsible events) by (not-false _ p.1.0)) ∙ h)
own_delivery events by _ r d f h = absurd (false≢true d)

-- nobody answers for a wagon before its departure
not_departed : (events : List Event) (r : Railway) → has_departed events ≡ false → responsible events ≡ Some r → ⊥
not_departed events r d h =
    none-some r (ap (λ b. cond (b && not (is_delivered events)) (newest (λ x. new_responsible x.by x.body) events) None) (sym d) ∙ h)

-- so what takes the wagon over from a railway is an answer that received it
received_then : (events : List Event) (by : Railway) (says : EventBody) (r : Railway) → is_some (new_responsible by says) ≡ true → refusal events by says ≡ None → IsConsistent events → responsible events ≡ Some r →
    is_reception says ≡ true
received_then events by (Moved Departure) r k f kept h =
    let p = passed (movement_checks (journey_state events) by Departure) f in
    absurd (not_departed events r (kept.waits (released_early (stage events) (not-false _ p.0))) h)
received_then events by (Answered place true) r k f kept h = refl
received_then events by (Answered place false) r k f kept h = absurd (false≢true k)
received_then events by _ r k f kept h = absurd (false≢true k)

-- whoever stops being responsible by an event that may come next delivers the wagon by it, or another receives it by it
pub event_stops : (events : List Event) (e : Event) (r : Railway) → refusal events e.by e.body ≡ None → IsConsistent events → responsible events ≡ Some r →
    (responsible (events ++ e ∷ []) ≡ Some r → ⊥) → ((e.by ≡ r) × (is_delivery e.body ≡ true)) ⊎ (is_reception e.body ≡ true)
event_stops events e r f kept h n =
    elim (stops_cases (has_departed events) (is_departure e.body) (is_delivered events) (is_delivery e.body) (new_responsible e.by e.body) (newest (λ d. new_responsible d.by d.body) events) r h (λ k. n (responsible-push events e ∙ k))) [
      | inl d ↦ inl (own_delivery events e.by e.body r d f h, d)
      | inr k ↦ inr (received_then events e.by e.body r k f kept h)
    ]

departed_cases : (departed delivered : Bool) (by : Railway) (last : Option Railway) → delivered ≡ false → cond ((departed || true) && not (delivered || false)) (option_or (Some by) last) None ≡ Some by
departed_cases true false by last d = refl
departed_cases false false by last d = refl
departed_cases departed true by last d = absurd (true≢false d)

released_alone : stage_is.Released ≡ stage_is.Delivered → ⊥
released_alone h = cc

-- the railway that departs with a released wagon answers for it
pub departed_now : (events : List Event) (by : Railway) (number : ℕ) (at : Option ℕ) → stage events ≡ Some stage_is.Released → StaysDelivered events → responsible (events ++ an by number at (Moved Departure) ∷ []) ≡ Some by
departed_now events by number at released kept =
    let on : is_delivered events ≡ false = false_from_ne_true (is_delivered events) (λ d. released_alone (same_Some stage_is.Released stage_is.Delivered (sym released ∙ kept d))) in
    responsible-push events (an by number at (Moved Departure)) ∙ departed_cases (has_departed events) (is_delivered events) by (newest (λ d. new_responsible d.by d.body) events) on

received_cases : (departed delivered : Bool) (last : Option Railway) (by from : Railway) → cond (departed && not delivered) last None ≡ Some from →
    cond ((departed || false) && not (delivered || false)) (option_or (Some by) last) None ≡ Some by
received_cases true false last by from h = refl
received_cases true true last by from h = absurd (none-some from h)
received_cases false delivered last by from h = absurd (none-some from h)

-- so does the railway that receives a wagon for which another answered
pub received_now : (events : List Event) (by from : Railway) (number : ℕ) (at : Option ℕ) (place : Place) → responsible events ≡ Some from → responsible (events ++ an by number at (Answered place true) ∷ []) ≡ Some by
received_now events by from number at place h =
    responsible-push events (an by number at (Answered place true)) ∙ received_cases (has_departed events) (is_delivered events) (newest (λ d. new_responsible d.by d.body) events) by from h

-- a stage that is the released one
pub released_is : (o : Option Stage) → (option_eq same_stage o (Some stage_is.Released) || false) ≡ true → o ≡ Some stage_is.Released
released_is (Some stage_is.Released) h = refl
released_is _ h = cc
