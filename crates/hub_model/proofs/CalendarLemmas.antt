-- Whatever messages are accepted, every wagon's estimates stay within the calendar.
use Rattle.hub_model.proofs.Common.{◌≡◌, ℕ, Bool, true, false, cond, not, List, [], ◌∷◌, ◌++◌, Option, Some, None, refl, ap, ◌∙◌, sym, ◌&&◌, false≢true, cond_both, Railway, Trip, has, BeyondCalendar, Body, Event, Planned, fits, is_calendar_checked, legs, leg_index, fits-no_anchor, IsFit, HasMoment, IsDated, fit_said, moment_in, HubState, new_state, named_wagons, event_for, event_body_for, with_event, journey_after, fault, known_fault, calendar_fault, IsMoment, AreDated, EstimatesFit, ChecksKeepTheCalendar, Entry, IsLegal, state_of}
use Rattle.taf_messages.specs.declared.message.Body.TheVariants as body
use Rattle.hub_model.proofs.NoFaultLemmas.{or_none_right, no_named_fault, goes_on, known_allowed, planned_anew, msg}
use Rattle.hub_model.proofs.SoundnessLemmas.{IsSound, NoPlan, all_known, sound_accepted, sound_nothing}
use Rattle.hub_model.proofs.JourneyLengthLemmas.{IsTrackState, kept_from}

-- a wagon that was only planned has no estimate
fit_planned : (by : Railway) (number : ℕ) (at : Option ℕ) (p : Trip) → IsFit (record { by = by; no = number; at = at; body = Planned p } ∷ [])
fit_planned by number at p =
    let events : List Event = record { by = by; no = number; at = at; body = Planned p } ∷ [] in
    record { fit = fits-no_anchor (leg_index events) (legs events); ends = λ h. absurd (false≢true h) }

none_passes : (b c : Bool) → cond (b && not c) (Some BeyondCalendar) None ≡ None → b ≡ true → c ≡ true
none_passes true true h e = refl
none_passes true false h e = cc
none_passes false c h e = absurd (false≢true e)

-- what a message says of a wagon has a moment where it is a movement
dated_share : (s : HubState) (by : Railway) (says : Body) (w : ℕ) → HasMoment (moment_in says) (event_body_for s.offer by says w)
dated_share s by (body.Plan p) w = tt
dated_share s by (body.Movement m) w = tt
dated_share s by (body.EtiAsk v) w = tt
dated_share s by (body.LegTime v leg minutes) w = tt
dated_share s by (body.Offer o) w = tt
dated_share s by (body.Answer a) w = tt
dated_share s by (body.Withdraw at n) w = tt
dated_share s by (body.Reroute v route) w = tt

-- a message without a fault passed the check of the calendar
no_calendar_fault : (s : HubState) (by : Railway) (number : ℕ) (says : Body) (w : ℕ) → NoPlan says → fault s (msg by number says) ≡ None → has (named_wagons s.offer (msg by number says)) w ≡ true → calendar_fault s (msg by number says) w ≡ None
no_calendar_fault s by number (body.Plan p) w g f h = absurd g
no_calendar_fault s by number (body.Answer a) w g f h = no_named_fault s (msg by number (body.Answer a)) w f h
no_calendar_fault s by number (body.Withdraw at n) w g f h = refl
no_calendar_fault s by number (body.Movement m) w g f h = or_none_right _ _ (no_named_fault s (msg by number (body.Movement m)) w f h)
no_calendar_fault s by number (body.EtiAsk v) w g f h = or_none_right _ _ (no_named_fault s (msg by number (body.EtiAsk v)) w f h)
no_calendar_fault s by number (body.LegTime v leg minutes) w g f h = or_none_right _ _ (no_named_fault s (msg by number (body.LegTime v leg minutes)) w f h)
no_calendar_fault s by number (body.Offer o) w g f h = or_none_right _ _ (no_named_fault s (msg by number (body.Offer o)) w f h)
no_calendar_fault s by number (body.Reroute v route) w g f h = or_none_right _ _ (no_named_fault s (msg by number (body.Reroute v route)) w f h)

same_moment : (at : Option ℕ) → IsMoment at → IsDated at
same_moment None d = tt
same_moment (Some m) d = d

-- a journey goes on by a message at which its wagon passed the checks
fit_checked : (s : HubState) (by : Railway) (number : ℕ) (says : Body) → IsMoment (moment_in says) → (w : ℕ) → has (named_wagons s.offer (msg by number says)) w ≡ true → known_fault s (msg by number says) w ≡ None →
    calendar_fault s (msg by number says) w ≡ None → IsFit (s.journey w) → IsFit (with_event (s.journey w) (event_for s.offer (msg by number says) w))
fit_checked s by number says d w h known none fit =
    let m = msg by number says in
    let events = s.journey w in
    let e = event_for s.offer m w in
    let on = goes_on events e known in
    let after : has (named_wagons s.offer m) w ≡ true → journey_after s m w ≡ events ++ e ∷ [] = λ k. rw k on in
    rw on (fit_said events by number fit (moment_in says) (event_body_for s.offer by says w) (same_moment (moment_in says) d) (dated_share s by says w) (known_allowed events by (event_body_for s.offer by says w) known)
    (λ r. ap fits (sym (after h)) ∙ none_passes (is_calendar_checked (event_body_for s.offer by says w)) (fits (journey_after s m w)) none r))

-- any message but a plan goes on with the journeys
fit_on : (s : HubState) (so : IsSound s) (by : Railway) (number : ℕ) (says : Body) → NoPlan says → IsMoment (moment_in says) → fault s (msg by number says) ≡ None → (w : ℕ) → IsFit (s.journey w) →
    IsFit (journey_after s (msg by number says) w)
fit_on s so by number says g d f w fit =
    let m = msg by number says in
    cond_both (has (named_wagons s.offer m) w) (with_event (s.journey w) (event_for s.offer m w)) (s.journey w) IsFit
    (λ h. fit_checked s by number says d w h (all_known s so by number says w g f h) (no_calendar_fault s by number says w g f h) fit)
    (λ h. fit)

fit_body : (s : HubState) (so : IsSound s) (by : Railway) (number : ℕ) (says : Body) → IsMoment (moment_in says) → fault s (msg by number says) ≡ None → (w : ℕ) → IsFit (s.journey w) → IsFit (journey_after s (msg by number says) w)
fit_body s so by number (body.Plan p) d f w fit =
    let m = msg by number (body.Plan p) in
    cond_both (has (named_wagons s.offer m) w) (with_event (s.journey w) (event_for s.offer m w)) (s.journey w) IsFit
    (λ h. rw (planned_anew (s.journey w) (event_for s.offer m w) refl) (fit_planned by number None p))
    (λ h. fit)
fit_body s so by number (body.Movement m) d f w fit = fit_on s so by number (body.Movement m) tt d f w fit
fit_body s so by number (body.EtiAsk v) d f w fit = fit_on s so by number (body.EtiAsk v) tt d f w fit
fit_body s so by number (body.LegTime v leg minutes) d f w fit = fit_on s so by number (body.LegTime v leg minutes) tt d f w fit
fit_body s so by number (body.Offer o) d f w fit = fit_on s so by number (body.Offer o) tt d f w fit
fit_body s so by number (body.Answer a) d f w fit = fit_on s so by number (body.Answer a) tt d f w fit
fit_body s so by number (body.Withdraw at n) d f w fit = fit_on s so by number (body.Withdraw at n) tt d f w fit
fit_body s so by number (body.Reroute v route) d f w fit = fit_on s so by number (body.Reroute v route) tt d f w fit

-- offers are sound, and all estimates fit
record AllFit (s : HubState) : Type 0 where
  sound : IsSound s
  each : (w : ℕ) → IsFit (s.journey w)

kept_fit : IsTrackState (λ m. IsMoment (moment_in m.body)) AllFit
kept_fit = record {
  accepts = λ s m d f all. record { sound = sound_accepted s all.sound m f; each = λ w. fit_body s all.sound m.by m.no m.body d f w (all.each w) };
  notes = λ s m reply all. record { sound = record { offered = all.sound.offered; delivered = all.sound.delivered }; each = all.each };
  acks = λ s by n all. record { sound = record { offered = all.sound.offered; delivered = all.sound.delivered }; each = all.each };
}

fit_nothing : AllFit new_state
fit_nothing = record { sound = sound_nothing; each = λ w. record { fit = refl; ends = λ h. absurd (false≢true h) } }

all_fit : (history : List Entry) → IsLegal history → AreDated history → AllFit (state_of history)
all_fit history legal dated = kept_from (λ m. IsMoment (moment_in m.body)) AllFit kept_fit new_state history legal dated fit_nothing

pub estimates_fit : EstimatesFit
estimates_fit history legal dated w = let one = (all_fit history legal dated).each w in one.fit

pub checks_keep : ChecksKeepTheCalendar
checks_keep history legal dated m d w known none =
    let s = state_of history in
    let before = (all_fit history legal dated).each w in
    let after : IsFit (journey_after s m w) = cond_both (has (named_wagons s.offer m) w) (with_event (s.journey w) (event_for s.offer m w)) (s.journey w) IsFit (λ h. fit_checked s m.by m.no m.body d w h known none before) (λ h. before) in
    after.fit
