-- A journey goes on by an event that may come next.
use Rattle.journey.proofs.Common.{◌≡◌, List, [], ◌∷◌, ◌++◌, None, sym, subst, append-nil, append_assoc, Event, refusal, AllAdmitted, IsJourney}

admitted-push : (before events : List Event) (e : Event) → AllAdmitted before events → refusal (before ++ events) e.by e.body ≡ None → AllAdmitted before (events ++ e ∷ [])
admitted-push before [] e all r = (subst (λ (xs : List Event). refusal xs e.by e.body ≡ None) (append-nil before) r, tt)
admitted-push before (d ∷ events) e all r =
    (all.0, admitted-push (before ++ d ∷ []) events e all.1 (subst (λ (xs : List Event). refusal xs e.by e.body ≡ None) (sym (append_assoc before (d ∷ []) events)) r))

-- and stays a journey
pub journey-push : (events : List Event) (e : Event) → IsJourney events → refusal events e.by e.body ≡ None → IsJourney (events ++ e ∷ [])
journey-push [] e j r = absurd j
journey-push (d ∷ events) e j r = (j.0, admitted-push (d ∷ []) events e j.1 r)
