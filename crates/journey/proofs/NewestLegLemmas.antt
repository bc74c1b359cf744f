-- The legs of a journey are those that the newest events set.
use Rattle.journey.proofs.Common.{◌≡◌, ℕ, ◌+◌, ◌-◌, ◌<◌, ◌≤◌, zero, suc, Bool, true, false, cond, List, [], ◌∷◌, ◌++◌, length, take, Option, Some, None, refl, ap, ◌∙◌, sym, inl, inr, arith, ◌==◌, append-nil, append_assoc, fold, slice_get, option_map, unwrap_or, nat_lt, if◌then◌else◌, option_or, lt-ltb, le-ltb, cases_lt, nat_tests, first_of, Leg, Event, EventBody, Planned, LegTimed, Rerouted, newest, leg_index, is_reception, legs, legs_after, index_after, with_leg_minutes, journey_state, checks, IsSound, EventOnLeg, with_minutes, events_on_legs_from, events_on_legs, route_leg, leg_set, minutes_set, count_set, count_by_newest, leg_by_newest, IsPlanOfLegs, AllAdmitted, IsJourney, OnLegsByCount, LegsAreTheNewest, AsManyLegs, RerouteUndoesTimes}
use Rattle.journey.proofs.NewestLemmas.{newest-push}
use Rattle.journey.proofs.LegPositionLemmas.{legs-push, timed_length, rerouted_length}
use Rattle.journey.proofs.SoundStateLemmas.{journey_state-push, sound-after}

events_on_legs_from-push : (c : ℕ) (events : List Event) (e : Event) →
    events_on_legs_from c (events ++ e ∷ []) ≡ events_on_legs_from c events ++ record { on = fold (λ a d. a + cond (is_reception d.body) 1 0) c events; says = e.body } ∷ []
events_on_legs_from-push c [] e = refl
events_on_legs_from-push c (d ∷ events) e = ap (λ rest. record { on = c; says = d.body } ∷ rest) (events_on_legs_from-push (index_after c d.body) events e)

pub placed_by_count : OnLegsByCount
placed_by_count events e = events_on_legs_from-push 0 events e

-- leg i of n legs, which is set like this and with these minutes
abbrev leg_from : ℕ → Option ℕ → Option Leg → ℕ → Option Leg
leg_from n minutes put i = if nat_lt i n then option_map (λ (l : Leg). with_minutes (unwrap_or minutes l.minutes) l) put else None

-- legs that are those which the newest events set
record Agree (events : List EventOnLeg) (ls : List Leg) : Type 0 where
  as_many : length ls ≡ count_by_newest events
  each : (i : ℕ) → slice_get ls i ≡ leg_by_newest events i

-- leg i after one event more, by what it says and by what was said before
abbrev leg_next : ℕ → EventBody → ℕ → Option ℕ → Option ℕ → Option Leg → Option Leg
leg_next c body i count minutes put =
    leg_from (unwrap_or (option_or (count_set c body) count) 0) (option_or (minutes_set c body i) minutes) (option_or (leg_set c body i) put) i

leg_by_newest-push : (events : List EventOnLeg) (c : ℕ) (body : EventBody) (i : ℕ) →
    leg_by_newest (events ++ record { on = c; says = body } ∷ []) i ≡
    leg_next c body i (newest (λ e. count_set e.on e.says) events) (newest (λ e. minutes_set e.on e.says i) events) (newest (λ e. leg_set e.on e.says i) events)
leg_by_newest-push events c body i =
    let last : EventOnLeg = record { on = c; says = body } in
    let counts = newest-push (λ (e : EventOnLeg). count_set e.on e.says) events last in
    let times = newest-push (λ (e : EventOnLeg). minutes_set e.on e.says i) events last in
    let set = newest-push (λ (e : EventOnLeg). leg_set e.on e.says i) events last in
    λ j. leg_from (unwrap_or (counts j) 0) (times j) (set j) i

-- leg k of those that are set now, which is leg i of n
leg_set_now : (ls : List Leg) (k n i : ℕ) (minutes : Option ℕ) (put : Option Leg) → i + length ls ≡ n + k →
    slice_get ls k ≡ leg_from n (option_or (option_map (λ l. l.minutes) (slice_get ls k)) minutes) (option_or (slice_get ls k) put) i
leg_set_now [] k n i minutes put e = rw (le-ltb i n (omega arith)) refl
leg_set_now (l ∷ ls) zero n i minutes put e = rw (lt-ltb i n (omega arith)) refl
leg_set_now (l ∷ ls) (suc k) n i minutes put e = leg_set_now ls k n i minutes put (omega arith)

-- leg i of a route behind the first n
routed : (n : ℕ) (ls route : List Leg) (i : ℕ) → n ≤ length ls → slice_get (take n ls ++ route) i ≡ (if nat_lt i n then slice_get ls i else slice_get route (i - n))
routed zero ls route i h = let all : i - 0 ≡ i = omega arith in rw (all, le-ltb i 0 (omega arith)) refl
routed (suc n) [] route i h = absurd (omega arith)
routed (suc n) (l ∷ ls) route zero h = rw (lt-ltb 0 (suc n) (omega arith)) refl
routed (suc n) (l ∷ ls) route (suc i) h = let fewer : suc i - suc n ≡ i - n = omega arith in rw fewer (grind (arith, nat_tests, routed n ls route i (omega arith)))

routed_leg : (ls route : List Leg) (c i n : ℕ) (minutes : Option ℕ) (put : Option Leg) → c < length ls → length ls ≡ n →
    slice_get ls i ≡ leg_from n minutes put i →
    slice_get (take (c + 1) ls ++ route) i ≡
    leg_from (c + 1 + length route) (option_or (option_map (λ l. l.minutes) (route_leg c route i)) minutes) (option_or (route_leg c route i) put) i
routed_leg ls route c i n minutes put on size h = routed (c + 1) ls route i (omega arith) ∙ elim (cases_lt c i) [
  | inr k ↦ rw (le-ltb c i k, lt-ltb i (c + 1) (omega arith), lt-ltb i (c + 1 + length route) (omega arith)) (h ∙ (rw (lt-ltb i n (omega arith)) refl))
  | inl k ↦ rw (lt-ltb c i k, le-ltb i (c + 1) (omega arith)) (leg_set_now route (i - (c + 1)) (c + 1 + length route) i minutes put (omega arith))
]

-- the legs, of which one takes other minutes
slice_get-with_leg_minutes : (ls : List Leg) (t minutes i : ℕ) →
    slice_get (with_leg_minutes ls t minutes) i ≡ (if i == t then option_map (with_minutes minutes) (slice_get ls i) else slice_get ls i)
slice_get-with_leg_minutes [] t minutes i = grind (arith, nat_tests)
slice_get-with_leg_minutes (l ∷ ls) zero minutes zero = refl
slice_get-with_leg_minutes (l ∷ ls) zero minutes (suc i) = grind (arith, nat_tests)
slice_get-with_leg_minutes (l ∷ ls) (suc t) minutes zero = grind (arith, nat_tests)
slice_get-with_leg_minutes (l ∷ ls) (suc t) minutes (suc i) = grind (arith, nat_tests, slice_get-with_leg_minutes ls t minutes i)

timed_leg : (here there : Bool) (m : ℕ) (minutes : Option ℕ) (put : Option Leg) →
    (if here then option_map (with_minutes m) (if there then option_map (λ (l : Leg). with_minutes (unwrap_or minutes l.minutes) l) put else None)
    else (if there then option_map (λ (l : Leg). with_minutes (unwrap_or minutes l.minutes) l) put else None)) ≡
    (if there then option_map (λ (l : Leg). with_minutes (unwrap_or (option_or (if here then Some m else None) minutes) l.minutes) l) put else None)
timed_leg true true m minutes None = refl
timed_leg true true m minutes (Some l) = refl
timed_leg true false m minutes put = refl
timed_leg false there m minutes put = refl

next_leg : (ls : List Leg) (c : ℕ) (body : EventBody) (i : ℕ) (count minutes : Option ℕ) (put : Option Leg) → c < length ls → length ls ≡ unwrap_or count 0 →
    slice_get ls i ≡ leg_from (unwrap_or count 0) minutes put i → slice_get (legs_after c ls body) i ≡ leg_next c body i count minutes put
next_leg ls c (Planned plan) i count minutes put on size h = leg_set_now plan.legs i (length plan.legs) i minutes put (omega arith)
next_leg ls c (Rerouted route) i count minutes put on size h = routed_leg ls route c i (unwrap_or count 0) minutes put on size h
next_leg ls c (LegTimed t m) i count minutes put on size h =
    slice_get-with_leg_minutes ls t m i ∙ ap (λ o. if i == t then option_map (with_minutes m) o else o) h ∙
    timed_leg (i == t) (nat_lt i (unwrap_or count 0)) m minutes put
next_leg ls c _ i count minutes put on size h = h

next_count : (ls : List Leg) (c : ℕ) (body : EventBody) (count : Option ℕ) → c < length ls → length ls ≡ unwrap_or count 0 →
    length (legs_after c ls body) ≡ unwrap_or (option_or (count_set c body) count) 0
next_count ls c (Planned plan) count on size = refl
next_count ls c (Rerouted route) count on size = rerouted_length ls route c on
next_count ls c (LegTimed t m) count on size = timed_length ls t m ∙ size
next_count ls c _ count on size = size

agree-push : (events : List EventOnLeg) (ls : List Leg) (c : ℕ) (body : EventBody) → Agree events ls → c < length ls → Agree (events ++ record { on = c; says = body } ∷ []) (legs_after c ls body)
agree-push events ls c body a on = record {
  as_many = next_count ls c body (newest (λ e. count_set e.on e.says) events) on a.as_many ∙
      ap (λ o. unwrap_or o 0) (sym (newest-push (λ (e : EventOnLeg). count_set e.on e.says) events (record { on = c; says = body })));
  each = λ i. next_leg ls c body i (newest (λ e. count_set e.on e.says) events) (newest (λ e. minutes_set e.on e.says i) events) (newest (λ e. leg_set e.on e.says i) events) on a.as_many (a.each i) ∙
      sym (leg_by_newest-push events c body i);
}

-- the journey is sound, and its legs are those that the newest events set
record IsLawful (events : List Event) : Type 0 where
  sound : IsSound (journey_state events)
  agree : Agree (events_on_legs events) (legs events)

lawful-push : (events : List Event) (e : Event) → IsLawful events → first_of (checks (journey_state events) e.by e.body) ≡ None → IsLawful (events ++ e ∷ [])
lawful-push events e k admitted = record {
  sound = rw (journey_state-push events e) (sound-after (journey_state events) e k.sound admitted);
  agree = rw (placed_by_count events e, legs-push events e) (agree-push (events_on_legs events) (legs events) (leg_index events) e.body k.agree k.sound.on_a_leg);
}

lawful_all : (before events : List Event) → IsLawful before → AllAdmitted before events → IsLawful (before ++ events)
lawful_all before [] k a = rw (append-nil before) k
lawful_all before (e ∷ events) k a =
    rw (← append_assoc before (e ∷ []) events) (lawful_all (before ++ e ∷ []) events (lawful-push before e k a.0) a.1)

lawful_plan : (e : Event) → IsPlanOfLegs e.body → IsLawful (e ∷ [])
lawful_plan e h = by e.by e.no e.at e.body h
  where
    by : (sender : _) (number : _) (at : _) (body : EventBody) → IsPlanOfLegs body → IsLawful (record { by = sender; no = number; at = at; body = body } ∷ [])
    by sender number at (Planned plan) h = record {
      sound = record { staged = refl; on_a_leg = h.0; few_legs = h.1; next_leg = λ o. cc };
      agree = record { as_many = refl; each = λ i. leg_set_now plan.legs i (length plan.legs) i None None (omega arith) ∙ sym (leg_by_newest-push [] 0 (Planned plan) i) };
    }
    by sender number at _ h = absurd h

lawful : (events : List Event) → IsJourney events → IsLawful events
lawful [] h = absurd h
lawful (e ∷ events) h = lawful_all (e ∷ []) events (lawful_plan e h.0) h.1

-- a wagon is on a leg through its whole journey
pub sound_journey : (events : List Event) → IsJourney events → IsSound (journey_state events)
sound_journey events h = (lawful events h).sound

pub legs_are_the_newest : LegsAreTheNewest
legs_are_the_newest events h i = (lawful events h).agree.each i

pub as_many_legs : AsManyLegs
as_many_legs events h = (lawful events h).agree.as_many

pub reroute_undoes_times : RerouteUndoesTimes
reroute_undoes_times = record {
  is_journey = ((omega arith, omega arith), (refl, (refl, (refl, tt))));
  planned = refl;
  timed = refl;
  rerouted = refl;
  timed_again = refl;
}
