-- Whatever messages are accepted, each wagon with a journey has one whose events could each come next.
use Rattle.hub_model.proofs.Common.{◌≡◌, ℕ, true, false, cond, List, [], ◌∷◌, Some, None, refl, sym, subst, inl, inr, false≢true, cond_both, Railway, has, UnknownWagon, Message, Body, Event, EventBody, IsJourney, IsPlanOfLegs, is_plan, refusal, journey-push, sound_journey, HubState, Offers, new_state, named_wagons, event_for, event_body_for, with_event, journey_after, fault, is_unknown, HasFewLegs, IsWithinLimits, JourneysAreAdmitted, AlwaysOnLeg}
use Rattle.taf_messages.specs.declared.message.Body.TheVariants as body
use Rattle.hub_model.proofs.NoFaultLemmas.{goes_on, known_allowed, planned_anew}
use Rattle.hub_model.proofs.SoundnessLemmas.{IsSound, all_known, plan_or_not, sound_accepted, sound_nothing}
use Rattle.hub_model.proofs.JourneyLengthLemmas.{IsTrackState, kept_from}

-- there is no journey, or such a one
abbrev pub IsAdmitted : List Event → Type 0
IsAdmitted events = is_unknown events ≡ false → IsJourney events

-- the event of a plan brings its legs
few_legs_said : (offers : Offers) (by : Railway) (says : Body) (w : ℕ) → HasFewLegs says → is_plan (event_body_for offers by says w) ≡ true → IsPlanOfLegs (event_body_for offers by says w)
few_legs_said offers by (body.Plan p) w d h = d
few_legs_said offers by (body.Movement m) w d h = absurd (false≢true h)
few_legs_said offers by (body.EtiAsk v) w d h = absurd (false≢true h)
few_legs_said offers by (body.LegTime v leg minutes) w d h = absurd (false≢true h)
few_legs_said offers by (body.Offer o) w d h = absurd (false≢true h)
few_legs_said offers by (body.Answer a) w d h = absurd (false≢true h)
few_legs_said offers by (body.Withdraw at n) w d h = absurd (false≢true h)
few_legs_said offers by (body.Reroute v route) w d h = absurd (false≢true h)

-- a wagon that passed its own checks has a journey
is_known : (events : List Event) (by : Railway) (says : EventBody) → cond (is_unknown events) (Some UnknownWagon) (refusal events by says) ≡ None → is_unknown events ≡ false
is_known [] by says r = cc
is_known (e ∷ events) by says r = refl

-- a plan begins a journey, and any other accepted message goes on with it
admitted_after : (s : HubState) → IsSound s → (m : Message) → HasFewLegs m.body → fault s m ≡ None → (w : ℕ) → IsAdmitted (s.journey w) → IsAdmitted (journey_after s m w)
admitted_after s so m d f w a =
    let events = s.journey w in
    let e = event_for s.offer m w in
    let says = event_body_for s.offer m.by m.body w in
    cond_both (has (named_wagons s.offer m) w) (with_event events e) events IsAdmitted
    (λ n. elim (plan_or_not s.offer m.by m.body w) [
      | inl p ↦ subst IsAdmitted (sym (planned_anew events e p)) (λ k. (few_legs_said s.offer m.by m.body w d p, tt))
      | inr p ↦
          (let known = all_known s so m.by m.no m.body w p f n in
          subst IsAdmitted (sym (goes_on events e known)) (λ k. journey-push events e (a (is_known events m.by says known)) (known_allowed events m.by says known)))
    ])
    (λ n. a)

-- offers are sound, and all journeys are such
pub record AllAdmitted (s : HubState) : Type 0 where
  pub sound : IsSound s
  pub each : (w : ℕ) → IsAdmitted (s.journey w)

pub kept_admitted : IsTrackState IsWithinLimits AllAdmitted
kept_admitted = record {
  accepts = λ s m d f all. record { sound = sound_accepted s all.sound m f; each = λ w. admitted_after s all.sound m d.0 f w (all.each w) };
  notes = λ s m reply all. record { sound = record { offered = all.sound.offered; delivered = all.sound.delivered }; each = all.each };
  acks = λ s by n all. record { sound = record { offered = all.sound.offered; delivered = all.sound.delivered }; each = all.each };
}

pub admitted_nothing : AllAdmitted new_state
admitted_nothing = record { sound = sound_nothing; each = λ w h. cc }

pub journeys_are_admitted : JourneysAreAdmitted
journeys_are_admitted history legal limits w known = (kept_from IsWithinLimits AllAdmitted kept_admitted new_state history legal limits admitted_nothing).each w known

pub always_on_leg : AlwaysOnLeg
always_on_leg history legal limits w known =
    let sound = sound_journey _ (journeys_are_admitted history legal limits w known) in
    (sound.on_a_leg, sound.few_legs)
