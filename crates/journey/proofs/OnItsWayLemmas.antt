-- A wagon has a responsible railway exactly when it is on its way.
use Rattle.journey.proofs.Common.{◌≡◌, Bool, true, false, cond, List, [], ◌∷◌, Option, Some, None, refl, inl, inr, ◌↔◌, IsSome, is_some, option_or, or_cases, and_parts, false≢true, Railway, Departure, Event, EventBody, Moved, newest, responsible, is_on_its_way, is_departure, has_departed, new_responsible}

pub taken_by : (by : Railway) (body : EventBody) → is_departure body ≡ true → is_some (new_responsible by body) ≡ true
taken_by by (Moved Departure) h = refl
taken_by by _ h = cc

pub some_left : {A : Type 0} (a b : Option A) → is_some a ≡ true → is_some (option_or a b) ≡ true
some_left (Some x) b h = refl
some_left None b h = cc

pub some_right : {A : Type 0} (a b : Option A) → is_some b ≡ true → is_some (option_or a b) ≡ true
some_right (Some x) b h = refl
some_right None b h = h

-- a wagon that has departed was taken over
departed_taken : (events : List Event) → has_departed events ≡ true → is_some (newest (λ e. new_responsible e.by e.body) events) ≡ true
departed_taken [] h = cc
departed_taken (e ∷ events) h =
    elim (or_cases (is_departure e.body) (has_departed events) h) [
      | inl d ↦ some_right (newest (λ e. new_responsible e.by e.body) events) (new_responsible e.by e.body) (taken_by e.by e.body d)
      | inr d ↦ some_left (newest (λ e. new_responsible e.by e.body) events) (new_responsible e.by e.body) (departed_taken events d)
    ]

by_way : (b : Bool) (o : Option Railway) → (b ≡ true → is_some o ≡ true) → IsSome (cond b o None) ↔ (b ≡ true)
by_way true o h = (λ s. refl, λ e. h refl)
by_way false o h = (λ s. absurd (false≢true s), λ e. absurd (false≢true e))

pub responsible-on_its_way : (events : List Event) → IsSome (responsible events) ↔ (is_on_its_way events ≡ true)
responsible-on_its_way events =
    by_way (is_on_its_way events) (newest (λ e. new_responsible e.by e.body) events) (λ h. departed_taken events ((and_parts _ _ h).0))
