-- What an accepted message passed.
use Rattle.hub_model.proofs.Common.{◌≡◌, ℕ, true, false, cond, List, [], ◌∷◌, ◌++◌, Option, Some, None, refl, subst, eqb, inl, inr, option_map, option_or, or_cases, and_parts, eqb-true, not-false, list_all, Railway, has, UnknownWagon, Message, TrainAnswer, Body, Event, EventBody, Planned, is_plan, refusal, matches, wagons_of, passed, HubState, named_wagons, with_event, fault, whole_checks, whole_fault, first_fault, wagon_fault, known_fault, is_unknown}
use Rattle.taf_messages.specs.declared.message.Body.TheVariants as body

-- parts of a choice that is none
pub or_none_left : {A : Type 0} (a b : Option A) → option_or a b ≡ None → a ≡ None
or_none_left None b h = refl
or_none_left (Some x) b h = cc

pub or_none_right : {A : Type 0} (a b : Option A) → option_or a b ≡ None → b ≡ None
or_none_right None b h = h
or_none_right (Some x) b h = cc

map_none : {A B : Type 0} (f : A → B) (a : Option A) → option_map f a ≡ None → a ≡ None
map_none f None h = refl
map_none f (Some x) h = cc

-- a message without a fault has none as a whole, and none at a wagon that it names
pub no_whole_fault : (s : HubState) (m : Message) → fault s m ≡ None → whole_fault s m.by m.body ≡ None
no_whole_fault s m f = map_none _ _ (or_none_left _ _ f)

no_wagon_fault : (s : HubState) (m : Message) (wagons : List ℕ) (w : ℕ) → first_fault s m wagons ≡ None → has wagons w ≡ true → wagon_fault s m m.body w ≡ None
no_wagon_fault s m [] w f h = cc
no_wagon_fault s m (v ∷ wagons) w f h =
    elim (or_cases (eqb v w) (has wagons w) h) [
      | inl e ↦ subst (λ u. wagon_fault s m m.body u ≡ None) (eqb-true v w e) (map_none _ _ (or_none_left _ _ f))
      | inr e ↦ no_wagon_fault s m wagons w (or_none_right _ _ f) e
    ]

pub no_named_fault : (s : HubState) (m : Message) (w : ℕ) → fault s m ≡ None → has (named_wagons s.offer m) w ≡ true → wagon_fault s m m.body w ≡ None
no_named_fault s m w f h = no_wagon_fault s m (named_wagons s.offer m) w (or_none_left _ _ (or_none_right _ _ f)) h

-- what may be added is no plan
allowed_no_plan : (events : List Event) (by : Railway) (says : EventBody) → refusal events by says ≡ None → is_plan says ≡ false
allowed_no_plan events by (Planned p) r = cc
allowed_no_plan events by _ r = refl

-- an event that may come next comes at the end
pub goes_on : (events : List Event) (e : Event) → cond (is_unknown events) (Some UnknownWagon) (refusal events e.by e.body) ≡ None → with_event events e ≡ events ++ e ∷ []
goes_on [] e r = cc
goes_on (first ∷ events) e r = rw (allowed_no_plan (first ∷ events) e.by e.body r) refl

pub known_allowed : (events : List Event) (by : Railway) (says : EventBody) → cond (is_unknown events) (Some UnknownWagon) (refusal events by says) ≡ None → refusal events by says ≡ None
known_allowed [] by says r = cc
known_allowed (first ∷ events) by says r = r

-- a plan begins the journey anew
pub planned_anew : (events : List Event) (e : Event) → is_plan e.body ≡ true → with_event events e ≡ e ∷ []
planned_anew [] e h = rw h refl
planned_anew (first ∷ events) e h = rw h refl

all_listed : (offered answered : List ℕ) (w : ℕ) → list_all (λ v. has offered v) answered ≡ true → has answered w ≡ true → has offered w ≡ true
all_listed offered [] w m h = cc
all_listed offered (v ∷ answered) w m h =
    let parts = and_parts (has offered v) (list_all (λ u. has offered u) answered) m in
    elim (or_cases (eqb v w) (has answered w) h) [
      | inl e ↦ subst (λ u. has offered u ≡ true) (eqb-true v w e) parts.0
      | inr e ↦ all_listed offered answered w parts.1 e
    ]

-- a wagon that an answer names is in the offer
pub listed : (offered answered : List ℕ) (w : ℕ) → matches offered answered ≡ true → has answered w ≡ true → has offered w ≡ true
listed offered answered w m h = all_listed offered answered w ((and_parts _ _ m).1) h

-- an answer without a fault names an open offer, and its wagons
pub answer_fits : (s : HubState) (by : Railway) (a : TrainAnswer) → whole_fault s by (body.Answer a) ≡ None →
    (s.is_open a.offerer a.offer ≡ true) × (matches (wagons_of (s.offer a.offerer a.offer)) (a.received ++ a.refused) ≡ true)
answer_fits s by a h = let checks = passed (whole_checks s by (body.Answer a)) h in (not-false _ checks.1.1.0, not-false _ checks.1.1.1.0)

pub withdraw_fits : (s : HubState) (by : Railway) (at k : ℕ) → whole_fault s by (body.Withdraw at k) ≡ None → s.is_open by k ≡ true
withdraw_fits s by at k h = let checks = passed (whole_checks s by (body.Withdraw at k)) h in not-false _ checks.1.0

-- a message that goes by the wagons' own checks
abbrev pub GoesOn : Body → Type 0
GoesOn (body.Plan p) = ⊥
GoesOn (body.Answer a) = ⊥
GoesOn (body.Withdraw at n) = ⊥
GoesOn _ = Unit {0}

abbrev pub msg : Railway → ℕ → Body → Message
msg by number says = record { by = by; no = number; body = says }

-- and where it has no fault, its wagons passed them
pub no_known_fault : (s : HubState) (by : Railway) (number : ℕ) (says : Body) (w : ℕ) → GoesOn says → fault s (msg by number says) ≡ None → has (named_wagons s.offer (msg by number says)) w ≡ true →
    known_fault s (msg by number says) w ≡ None
no_known_fault s by number (body.Plan p) w g f h = absurd g
no_known_fault s by number (body.Answer a) w g f h = absurd g
no_known_fault s by number (body.Withdraw at n) w g f h = absurd g
no_known_fault s by number (body.Movement m) w g f h = or_none_left _ _ (no_named_fault s (msg by number (body.Movement m)) w f h)
no_known_fault s by number (body.EtiAsk v) w g f h = or_none_left _ _ (no_named_fault s (msg by number (body.EtiAsk v)) w f h)
no_known_fault s by number (body.LegTime v leg minutes) w g f h = or_none_left _ _ (no_named_fault s (msg by number (body.LegTime v leg minutes)) w f h)
no_known_fault s by number (body.Offer o) w g f h = or_none_left _ _ (no_named_fault s (msg by number (body.Offer o)) w f h)
no_known_fault s by number (body.Reroute v route) w g f h = or_none_left _ _ (no_named_fault s (msg by number (body.Reroute v route)) w f h)
