-- A journey ends on its last leg, and its estimates stay within the calendar.
use Rattle.eti_chain.proofs.Common.{◌≡◌, ℕ, ◌+◌, ◌≤◌, Bool, true, false, List, [], ◌∷◌, ◌++◌, length, Option, Some, None, refl, ap, ◌∙◌, sym, arith, option_or, not-false, eqb-true, false≢true, Railway, last_minute, Leg, MovementKind, Release, Departure, Exception, Estimate, Arrival, Delivery, Stage, Event, EventBody, Planned, Moved, EstimateAsked, LegTimed, Answered, Rerouted, stage, stage_after, leg_index, is_reception, legs, journey_state, refusal, movement_checks, passed, stage-push, legs-push, leg_index-push, timed_length, legs_after, index_after, option_map, fits, fits_in, is_calendar_checked, anchor, anchor_after, delayed_by, basis_from}
use Rattle.taf_messages.specs.declared.record.Stage.TheVariants as stage_is
use Rattle.eti_chain.proofs.EstimateLemmas.{keeps_legs, basis-kept, not_delayed}
use Rattle.eti_chain.proofs.CalendarLemmas.{at_end, fits-last}

-- the wagon has arrived
abbrev pub has_arrived : Option Stage → Bool
has_arrived (Some stage_is.Arrived) = true
has_arrived (Some stage_is.Delivered) = true
has_arrived _ = false

-- a wagon that has arrived is on its last leg
abbrev pub EndsOnLast : List Event → Type 0
EndsOnLast events = has_arrived (stage events) ≡ true → leg_index events + 1 ≡ length (legs events)

pub record IsFit (events : List Event) : Type 0 where
  pub fit : fits events ≡ true
  pub ends : EndsOnLast events

-- the moment, if there is one, is within the calendar
abbrev pub IsDated : Option ℕ → Type 0
IsDated None = Unit {0}
IsDated (Some at) = at ≤ last_minute

-- a movement has a moment
abbrev pub HasMoment : Option ℕ → EventBody → Type 0
HasMoment None (Moved what) = ⊥
HasMoment at body = Unit {0}

-- a wagon that has arrived with an event is on its last leg then
abbrev EndsAfter : List Event → EventBody → Type 0
EndsAfter events body =
    has_arrived (option_or (stage_after body) (stage events)) ≡ true → index_after (leg_index events) body + 1 ≡ length (legs_after (leg_index events) (legs events) body)

ends-push : (events : List Event) (e : Event) → EndsAfter events e.body → EndsOnLast (events ++ e ∷ [])
ends-push events e k h = ap (λ c. c + 1) (leg_index-push events e) ∙ k (ap has_arrived (sym (stage-push events e)) ∙ h) ∙ ap length (sym (legs-push events e))

on_last : (events : List Event) (by : Railway) → refusal events by (Moved Arrival) ≡ None → leg_index events + 1 ≡ length (legs events)
on_last events by r = let p = passed (movement_checks (journey_state events) by Arrival) r in eqb-true (leg_index events + 1) (length (legs events)) (not-false _ p.1.1.0)

arrived_already : (events : List Event) (by : Railway) (s : Option Stage) → stage events ≡ s → refusal events by (Moved Delivery) ≡ None → has_arrived s ≡ true
arrived_already events by (Some stage_is.Arrived) e r = refl
arrived_already events by _ e r = let z = rw e at r in cc

-- a wagon that has arrived is not rerouted
rerouted_before : (events : List Event) (by : Railway) (route : List Leg) (s : Option Stage) → stage events ≡ s → refusal events by (Rerouted route) ≡ None → has_arrived s ≡ false
rerouted_before events by route (Some stage_is.Arrived) e r = let z = rw e at r in cc
rerouted_before events by route _ e r = let z = rw e at r in cc

abbrev an : Railway → ℕ → Option ℕ → EventBody → Event
an by number at body = record { by = by; no = number; at = at; body = body }

module _ (events : List Event) (by : Railway) (number : ℕ) (fit : IsFit events) where
  after : (at : Option ℕ) (body : EventBody) → fits (events ++ an by number at body ∷ []) ≡ true → EndsAfter events body → IsFit (events ++ an by number at body ∷ [])
  after at body f k = record { fit = f; ends = ends-push events (an by number at body) k }

  -- an event that leaves stage, leg index and the number of legs
  stays : has_arrived (stage events) ≡ true → leg_index events + 0 + 1 ≡ length (legs events)
  stays h = let last = fit.ends h in omega arith

  -- an event that changes no estimate
  silent : (at : Option ℕ) (body : EventBody) → keeps_legs body ≡ true → is_reception body ≡ false → anchor_after (anchor events) (an by number at body) ≡ option_map (delayed_by 0) (anchor events) →
      fits (events ++ an by number at body ∷ []) ≡ true
  silent at body k r is =
      ap fits_in (basis-kept events (an by number at body) k r) ∙ ap (λ a. fits_in (basis_from (leg_index events) (legs events) a)) (is ∙ not_delayed (anchor events)) ∙ fit.fit

  -- an event that ends the last leg at its moment
  ended : (m : ℕ) (what : MovementKind) → anchor_after (anchor events) (an by number (Some m) (Moved what)) ≡ Some (at_end m) → leg_index events + 1 ≡ length (legs events) → m ≤ last_minute →
      IsFit (events ++ an by number (Some m) (Moved what) ∷ [])
  ended m what is last d = after (Some m) (Moved what)
      (ap fits_in (basis-kept events (an by number (Some m) (Moved what)) refl refl) ∙ ap (λ a. fits_in (basis_from (leg_index events) (legs events) a)) is ∙ fits-last (leg_index events) (legs events) m last d)
      (λ h. omega arith)

  pub fit_said : (at : Option ℕ) (body : EventBody) → IsDated at → HasMoment at body → refusal events by body ≡ None →
      (is_calendar_checked body ≡ true → fits (events ++ an by number at body ∷ []) ≡ true) → IsFit (events ++ an by number at body ∷ [])
  fit_said at (Planned plan) d t r f = cc
  fit_said None (Moved what) d t r f = absurd t
  fit_said (Some m) (Moved Arrival) d t r f = ended m Arrival refl (on_last events by r) d
  fit_said (Some m) (Moved Delivery) d t r f = ended m Delivery refl (fit.ends (arrived_already events by (stage events) refl r)) d
  fit_said at (Moved Release) d t r f = after at (Moved Release) (f refl) (λ h. cc)
  fit_said at (Moved Departure) d t r f = after at (Moved Departure) (f refl) (λ h. cc)
  fit_said at (Moved (Exception delay)) d t r f = after at (Moved (Exception delay)) (f refl) stays
  fit_said at (Moved Estimate) d t r f = after at (Moved Estimate) (f refl) stays
  fit_said at EstimateAsked d t r f = after at EstimateAsked (silent at EstimateAsked refl refl refl) stays
  fit_said at (LegTimed leg minutes) d t r f = after at (LegTimed leg minutes) (f refl) (λ h. stays h ∙ sym (timed_length (legs events) leg minutes))
  fit_said at (Answered place received) d t r f = after at (Answered place received) (f refl) (λ h. cc)
  fit_said at (Rerouted route) d t r f = after at (Rerouted route) (f refl) (λ h. absurd (false≢true (sym (rerouted_before events by route (stage events) refl r) ∙ h)))
  fit_said at body d t r f = after at body (silent at body refl refl refl) (λ h. cc)
