-- What one more event does to what estimates are counted from.
use Rattle.eti_chain.proofs.Common.{take, take_more, get_or, length, ◌<◌, ◌≡◌, ℕ, ◌+◌, Bool, true, false, cond, List, [], ◌∷◌, ◌++◌, Option, Some, None, refl, ap, ◌∙◌, sym, add-zero, add_assoc, sum_by, is_some, option_map, option_or, sum_by_push, Leg, Event, EventBody, EstimateAsked, newest, since, leg_index, is_reception, legs_after, legs, newest-push, since-push, legs-push, leg_index-push, index_after, Anchor, anchor_in, delay_in, delays, delayed_by, anchor, basis_from, estimate_basis, anchor_after, Moved, Offered, Withdrawn, Answered}

-- an event that receives nothing leaves the leg index
pub leg_index-kept : (events : List Event) (e : Event) → is_reception e.body ≡ false → leg_index (events ++ e ∷ []) ≡ leg_index events
leg_index-kept events e r = leg_index-push events e ∙ ap (λ b. leg_index events + cond b 1 0) r ∙ add-zero (leg_index events)

sum_by_since : (b : Bool) (xs : List Event) (e : Event) → sum_by (λ d. delay_in d.body) (cond b [] (xs ++ e ∷ [])) ≡ cond b 0 (sum_by (λ d. delay_in d.body) xs + delay_in e.body)
sum_by_since true xs e = refl
sum_by_since false xs e = sum_by_push (λ d. delay_in d.body) xs e

-- an anchor puts the delays back, and an exception adds to them
delays-push : (events : List Event) (e : Event) → delays (events ++ e ∷ []) ≡ cond (is_some (anchor_in e.at e.body)) 0 (delays events + delay_in e.body)
delays-push events e =
    ap (sum_by (λ d. delay_in d.body)) (since-push (λ d. is_some (anchor_in d.at d.body)) events e) ∙
    sum_by_since (is_some (anchor_in e.at e.body)) (since (λ d. is_some (anchor_in d.at d.body)) events) e

-- no delay changes no anchor
pub not_delayed : (a : Option Anchor) → option_map (delayed_by 0) a ≡ a
not_delayed None = refl
not_delayed (Some a) = ap (λ (n : ℕ). Some (record a { delays = n })) (add-zero a.delays)

later_anchor : (new old : Option Anchor) (d n : ℕ) →
    option_map (delayed_by (cond (is_some new) 0 (d + n))) (option_or new old) ≡ option_or new (option_map (delayed_by n) (option_map (delayed_by d) old))
later_anchor None None d n = refl
later_anchor None (Some a) d n = ap (λ (m : ℕ). Some (record a { delays = m })) (sym (add_assoc a.delays d n))
later_anchor (Some a) old d n = not_delayed (Some a)

-- the newest anchor goes along with the events
pub anchor_push : (events : List Event) (e : Event) → anchor (events ++ e ∷ []) ≡ anchor_after (anchor events) e
anchor_push events e =
    ap (option_map (delayed_by (delays (events ++ e ∷ [])))) (newest-push (λ d. anchor_in d.at d.body) events e) ∙
    ap (λ n. option_map (delayed_by n) (option_or (anchor_in e.at e.body) (newest (λ d. anchor_in d.at d.body) events))) (delays-push events e) ∙
    later_anchor (anchor_in e.at e.body) (newest (λ d. anchor_in d.at d.body) events) (delays events) (delay_in e.body)

-- and with each event that a walk comes to
pub anchor_more : (events : List Event) (i : ℕ) (e : Event) → i < length events → e ≡ get_or events i e → anchor (take (i + 1) events) ≡ anchor_after (anchor (take i events)) e
anchor_more events i e h is = ap anchor (take_more events i e h ∙ ap (λ (d : Event). take i events ++ d ∷ []) (sym is)) ∙ anchor_push (take i events) e

-- an event that says nothing of legs
abbrev pub keeps_legs : EventBody → Bool
keeps_legs (Moved what) = true
keeps_legs EstimateAsked = true
keeps_legs (Offered place to) = true
keeps_legs (Answered place received) = true
keeps_legs (Withdrawn place) = true
keeps_legs _ = false

-- it changes the leg index and the anchor alone
pub basis-moved : (events : List Event) (e : Event) → keeps_legs e.body ≡ true →
    estimate_basis (events ++ e ∷ []) ≡ basis_from (index_after (leg_index events) e.body) (legs events) (anchor_after (anchor events) e)
basis-moved events e h =
    (λ i. basis_from (leg_index-push events e i) (legs-push events e i) (anchor_push events e i)) ∙ by e.body h (leg_index events) (legs events) (anchor_after (anchor events) e)
  where
    by : (body : EventBody) → keeps_legs body ≡ true → (c : ℕ) (ls : List Leg) (a : Option Anchor) → basis_from (index_after c body) (legs_after c ls body) a ≡ basis_from (index_after c body) ls a
    by EstimateAsked h c ls a = refl
    by (Moved what) h c ls a = refl
    by (Offered place to) h c ls a = refl
    by (Answered place received) h c ls a = refl
    by (Withdrawn place) h c ls a = refl
    by _ h c ls a = cc

-- where it receives nothing, the anchor alone
pub basis-kept : (events : List Event) (e : Event) → keeps_legs e.body ≡ true → is_reception e.body ≡ false →
    estimate_basis (events ++ e ∷ []) ≡ basis_from (leg_index events) (legs events) (anchor_after (anchor events) e)
basis-kept events e h r =
    basis-moved events e h ∙ ap (λ b. basis_from (leg_index events + cond b 1 0) (legs events) (anchor_after (anchor events) e)) r ∙
    ap (λ c. basis_from c (legs events) (anchor_after (anchor events) e)) (add-zero (leg_index events))
