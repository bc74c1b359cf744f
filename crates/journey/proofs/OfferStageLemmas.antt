-- How the offer that a wagon is in, and its stage, go along.
use Rattle.journey.proofs.Common.{◌≡◌, ℕ, Bool, true, false, List, [], ◌∷◌, ◌++◌, Option, Some, None, refl, ap, ◌∙◌, ◌||◌, option_or, option_flatten, list_any-append, Railway, WrongStage, Exception, Estimate, Delivery, Stage, Event, EventBody, Planned, Moved, EstimateAsked, LegTimed, Offered, Answered, Withdrawn, Rerouted, newest, stage, stage_after, is_delivery, is_delivered, refusal}
use Rattle.taf_messages.specs.declared.record.Stage.TheVariants as stage_is
use Rattle.journey.proofs.NewestLemmas.{newest-push}
use Rattle.journey.proofs.LegPositionLemmas.{stage-push}

-- an event that leads to a stage puts the wagon into no offer, unless it offers it
abbrev no_offer : Option Stage → Option (Option (Railway × ℕ))
no_offer (Some s) = Some None
no_offer None = None

-- the offer that an event puts the wagon into, or that it puts the wagon into none
abbrev pub offering : Railway → ℕ → EventBody → Option (Option (Railway × ℕ))
offering by number (Offered place to) = Some (Some (by, number))
offering by number body = no_offer (stage_after body)

abbrev pub offering_by : Event → Option (Option (Railway × ℕ))
offering_by e = offering e.by e.no e.body

-- the offer that a wagon is in
abbrev pub in_offer : List Event → Option (Railway × ℕ)
in_offer events = option_flatten (newest offering_by events)

abbrev pub Agree : Option (Option (Railway × ℕ)) → Option Stage → Type 0
Agree (Some (Some x)) s = s ≡ Some stage_is.Offered
Agree (Some None) s = Unit {0}
Agree None s = s ≡ None

agree_stage : (s : Option Stage) → Agree (no_offer s) s
agree_stage (Some s) = tt
agree_stage None = refl

agree_one : (by : Railway) (number : ℕ) (body : EventBody) → Agree (offering by number body) (stage_after body)
agree_one by number (Offered place to) = refl
agree_one by number body = agree_stage (stage_after body)

agree_or : (o p : Option (Option (Railway × ℕ))) (s t : Option Stage) → Agree o s → Agree p t → Agree (option_or o p) (option_or s t)
agree_or None p s t a b = rw a b
agree_or (Some None) p s t a b = tt
agree_or (Some (Some x)) p s t a b = rw a

agree_all : (events : List Event) → Agree (newest offering_by events) (stage events)
agree_all [] = refl
agree_all (e ∷ events) = agree_or (newest offering_by events) (offering_by e) (stage events) (stage_after e.body) (agree_all events) (agree_one e.by e.no e.body)

stage_by_agree : (o : Option (Option (Railway × ℕ))) (s : Option Stage) (x : Railway × ℕ) → Agree o s → option_flatten o ≡ Some x → s ≡ Some stage_is.Offered
stage_by_agree (Some (Some y)) s x a h = a
stage_by_agree _ s x a h = cc

-- a wagon that is in an offer is in the stage offered
pub stage_in_offer : (events : List Event) (x : Railway × ℕ) → in_offer events ≡ Some x → stage events ≡ Some stage_is.Offered
stage_in_offer events x h = stage_by_agree (newest offering_by events) (stage events) x (agree_all events) h

pub in_offer-push : (events : List Event) (e : Event) → in_offer (events ++ e ∷ []) ≡ option_flatten (option_or (offering_by e) (newest offering_by events))
in_offer-push events e = ap option_flatten (newest-push offering_by events e)

-- an event that an answer or a withdrawal makes
abbrev pub settles : EventBody → Bool
settles (Answered place received) = true
settles (Withdrawn place) = true
settles _ = false

in_offer_kept : (events : List Event) (x : Railway × ℕ) (by : Railway) (number : ℕ) (body : EventBody) → refusal events by body ≡ None → settles body ≡ false → in_offer events ≡ Some x →
    option_flatten (option_or (offering by number body) (newest offering_by events)) ≡ Some x
in_offer_kept events x by number (Offered place to) r k h = let z : Some WrongStage ≡ None = rw (stage_in_offer events x h) at r in cc
in_offer_kept events x by number (Moved (Exception delay)) r k h = h
in_offer_kept events x by number (Moved Estimate) r k h = h
in_offer_kept events x by number (Moved what) r k h = let z : Some WrongStage ≡ None = rw (stage_in_offer events x h) at r in cc
in_offer_kept events x by number _ r k h = cc

-- an event that may come next, and settles no offer, leaves the wagon in its offer
pub in_offer-kept : (events : List Event) (x : Railway × ℕ) (e : Event) → refusal events e.by e.body ≡ None → settles e.body ≡ false → in_offer events ≡ Some x → in_offer (events ++ e ∷ []) ≡ Some x
in_offer-kept events x e r k h = in_offer-push events e ∙ in_offer_kept events x e.by e.no e.body r k h

-- a wagon that was delivered is in that stage
abbrev pub StaysDelivered : List Event → Type 0
StaysDelivered events = is_delivered events ≡ true → stage events ≡ Some stage_is.Delivered

or_false_true : (b : Bool) → (b || (false || false)) ≡ true → b ≡ true
or_false_true true h = refl
or_false_true false h = h

delivered_kept : (events : List Event) (by : Railway) (body : EventBody) → refusal events by body ≡ None → StaysDelivered events →
    (is_delivered events || (is_delivery body || false)) ≡ true → option_or (stage_after body) (stage events) ≡ Some stage_is.Delivered
delivered_kept events by (Planned plan) r h d = cc
delivered_kept events by (Moved Delivery) r h d = refl
delivered_kept events by (Moved (Exception delay)) r h d = h (or_false_true _ d)
delivered_kept events by (Moved Estimate) r h d = h (or_false_true _ d)
delivered_kept events by EstimateAsked r h d = h (or_false_true _ d)
delivered_kept events by (LegTimed leg minutes) r h d = h (or_false_true _ d)
delivered_kept events by (Rerouted route) r h d = h (or_false_true _ d)
delivered_kept events by _ r h d = let z : Some WrongStage ≡ None = rw (h (or_false_true _ d)) at r in cc

pub delivered-kept : (events : List Event) (e : Event) → refusal events e.by e.body ≡ None → StaysDelivered events → StaysDelivered (events ++ e ∷ [])
delivered-kept events e r h d =
    stage-push events e ∙ delivered_kept events e.by e.body r h (rw (list_any-append (λ d. is_delivery d.body) events (e ∷ [])) at d)
