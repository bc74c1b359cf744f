-- What one more event does to stage, leg index and legs.
use Rattle.journey.proofs.Common.{◌<◌, take, arith, length-append, length-take-le, ◌≡◌, ℕ, ◌+◌, zero, suc, cond, List, [], ◌∷◌, ◌++◌, length, refl, ap, ◌∙◌, fold, option_or, fold-append, Leg, Event, stage, stage_after, leg_index, is_reception, plan, plan_in, LegPosition, leg_position, leg_position_after, index_after, legs, legs_after, with_leg_minutes}
use Rattle.journey.proofs.NewestLemmas.{newest-push}

pub stage-push : (events : List Event) (e : Event) → stage (events ++ e ∷ []) ≡ option_or (stage_after e.body) (stage events)
stage-push events e = newest-push (λ d. stage_after d.body) events e

pub plan-push : (events : List Event) (e : Event) → plan (events ++ e ∷ []) ≡ option_or (plan_in e.body) (plan events)
plan-push events e = newest-push (λ d. plan_in d.body) events e

pub leg_index-push : (events : List Event) (e : Event) → leg_index (events ++ e ∷ []) ≡ index_after (leg_index events) e.body
leg_index-push events e = fold-append (λ a d. a + cond (is_reception d.body) 1 0) 0 events (e ∷ [])

index_from : (leg_position : LegPosition) (events : List Event) → (fold leg_position_after leg_position events).index ≡ fold (λ a d. a + cond (is_reception d.body) 1 0) leg_position.index events
index_from leg_position [] = refl
index_from leg_position (e ∷ events) = index_from (leg_position_after leg_position e) events

-- the leg position counts the legs that are behind
pub course_index : (events : List Event) → (leg_position events).index ≡ leg_index events
course_index events = index_from (record { index = 0; legs = [] }) events

pub legs-push : (events : List Event) (e : Event) → legs (events ++ e ∷ []) ≡ legs_after (leg_index events) (legs events) e.body
legs-push events e =
    ap (λ c. c.legs) (fold-append leg_position_after (record { index = 0; legs = [] }) events (e ∷ [])) ∙
    ap (λ c. legs_after c (legs events) e.body) (course_index events)

-- a leg's time leaves the number of legs
pub timed_length : (ls : List Leg) (i minutes : ℕ) → length (with_leg_minutes ls i minutes) ≡ length ls
timed_length [] i minutes = refl
timed_length (l ∷ ls) zero minutes = refl
timed_length (l ∷ ls) (suc i) minutes = ap suc (timed_length ls i minutes)

-- the number of legs with a route behind leg c
pub rerouted_length : (ls route : List Leg) (c : ℕ) → c < length ls → length (take (c + 1) ls ++ route) ≡ c + 1 + length route
rerouted_length ls route c on = length-append (take (c + 1) ls) route ∙ ap (λ n. n + length route) (length-take-le (c + 1) ls (omega arith))
