-- The railway that answers for a wagon is the last that received it.
use Rattle.hub_model.proofs.Common.{◌≡◌, ℕ, Bool, true, false, cond, List, [], ◌∷◌, ◌++◌, Option, Some, None, refl, ap, ◌∙◌, sym, eqb, ◌&&◌, ◌||◌, is_some, filter_map, option_or, option_and_then, list_any, cons_option, false≢true, Railway, has, Message, Body, MovementKind, Release, Departure, YardArrival, YardDeparture, Exception, Estimate, Arrival, Delivery, Event, Moved, Answered, newest, from_last, is_plan, is_departure, is_on_its_way, new_responsible, responsible-on_its_way, Offers, event_for, state_after, accepted_in, offers_in, event_if_named, events_from, receiver_in, last_receiver, LastReceiverAnswers, option_or-none}
use Rattle.taf_messages.specs.declared.message.Body.TheVariants as body
use Rattle.hub_model.proofs.NoFaultLemmas.{msg}
use Rattle.hub_model.proofs.WagonEventLemmas.{journey_list}
use Rattle.hub_model.proofs.DependencyLemmas.{has-left}

abbrev took : Event → Option Railway
took e = new_responsible e.by e.body

or_some : {A : Type 0} (a b : Option A) → is_some a ≡ true → option_or a b ≡ a
or_some (Some x) b h = refl
or_some None b h = absurd (false≢true h)

-- what is found in the part from the last plan on is found last in the whole
in_part : {A B : Type 0} (f : A → Option B) (x : A) (xs part : List A) (any p : Bool) → (is_some (newest f part) ≡ true → newest f part ≡ newest f xs) →
    is_some (newest f (cond any part (cond p (x ∷ xs) []))) ≡ true → newest f (cond any part (cond p (x ∷ xs) [])) ≡ option_or (newest f xs) (f x)
in_part f x xs part true p same h = let e = same h in e ∙ sym (or_some (newest f xs) (f x) (ap is_some (sym e) ∙ h))
in_part f x xs part false true same h = refl
in_part f x xs part false false same h = absurd (false≢true h)

newest_part : {A B : Type 0} (f : A → Option B) (p : A → Bool) (xs : List A) → is_some (newest f (from_last p xs)) ≡ true → newest f (from_last p xs) ≡ newest f xs
newest_part f p [] h = refl
newest_part f p (x ∷ xs) h = in_part f x xs (from_last p xs) (list_any p xs) (p x) (newest_part f p xs) h

newest_cons : {A B : Type 0} (f : A → Option B) (o : Option A) (rest : List A) → newest f (cons_option o rest) ≡ option_or (newest f rest) (option_and_then f o)
newest_cons f (Some x) rest = refl
newest_cons f None rest = sym (option_or-none (newest f rest))

newest_of_part : {A B C : Type 0} (f : B → Option C) (g : A → Option B) (xs : List A) → newest f (filter_map g xs) ≡ newest (λ x. option_and_then f (g x)) xs
newest_of_part f g [] = refl
newest_of_part f g (x ∷ xs) = newest_cons f (g x) (filter_map g xs) ∙ ap (λ o. option_or o (option_and_then f (g x))) (newest_of_part f g xs)

same_newest : {A B : Type 0} (f g : A → Option B) (xs : List A) → ((x : A) → f x ≡ g x) → newest f xs ≡ newest g xs
same_newest f g xs h = λ i. newest (λ x. h x i) xs

-- a movement hands the wagon to its sender where it is the departure notice
moved_to_taker : (by : Railway) (number : ℕ) (at : Option ℕ) (what : MovementKind) → took (record { by = by; no = number; at = at; body = Moved what }) ≡ cond (is_departure (Moved what)) (Some by) None
moved_to_taker by number at Release = refl
moved_to_taker by number at Departure = refl
moved_to_taker by number at (YardArrival place) = refl
moved_to_taker by number at (YardDeparture place) = refl
moved_to_taker by number at (Exception delay) = refl
moved_to_taker by number at Estimate = refl
moved_to_taker by number at Arrival = refl
moved_to_taker by number at Delivery = refl

moved_taker : (by : Railway) (number : ℕ) (at : Option ℕ) (what : MovementKind) (b : Bool) →
    option_and_then took (cond (b || false) (Some (record { by = by; no = number; at = at; body = Moved what })) None) ≡ cond (b && is_departure (Moved what)) (Some by) None
moved_taker by number at what true = moved_to_taker by number at what
moved_taker by number at what false = refl

-- an answer hands it over where it received the wagon
answered_taker : (by : Railway) (number : ℕ) (at : Option ℕ) (place : List ℕ) (received b : Bool) → (received ≡ true → b ≡ true) →
    option_and_then took (cond b (Some (record { by = by; no = number; at = at; body = Answered place received })) None) ≡ cond received (Some by) None
answered_taker by number at place true true h = refl
answered_taker by number at place true false h = absurd (false≢true (h refl))
answered_taker by number at place false true h = refl
answered_taker by number at place false false h = refl

no_taker : (b : Bool) (e : Event) → took e ≡ None → option_and_then took (cond b (Some e) None) ≡ None
no_taker true e h = h
no_taker false e h = refl

-- the event of a message hands the wagon to whom the message hands it
pub share_taker : (offers : Offers) (by : Railway) (number : ℕ) (says : Body) (w : ℕ) → option_and_then took (event_if_named offers (msg by number says) w) ≡ receiver_in by says w
share_taker offers by number (body.Movement v) w = moved_taker by number (Some v.at) v.what (eqb v.wagon w)
share_taker offers by number (body.Answer a) w = answered_taker by number (Some a.at) _ (has a.received w) (has (a.received ++ a.refused) w) (has-left a.received a.refused w)
share_taker offers by number (body.Plan p) w = no_taker _ (event_for offers (msg by number (body.Plan p)) w) refl
share_taker offers by number (body.EtiAsk v) w = no_taker _ (event_for offers (msg by number (body.EtiAsk v)) w) refl
share_taker offers by number (body.LegTime v leg minutes) w = no_taker _ (event_for offers (msg by number (body.LegTime v leg minutes)) w) refl
share_taker offers by number (body.Offer o) w = no_taker _ (event_for offers (msg by number (body.Offer o)) w) refl
share_taker offers by number (body.Withdraw at k) w = no_taker _ (event_for offers (msg by number (body.Withdraw at k)) w) refl
share_taker offers by number (body.Reroute v route) w = no_taker _ (event_for offers (msg by number (body.Reroute v route)) w) refl

shares_taker : (messages : List Message) (w : ℕ) → newest took (events_from messages w) ≡ last_receiver messages w
shares_taker messages w =
    newest_of_part took (λ m. event_if_named (offers_in messages) m w) messages ∙
    same_newest (λ m. option_and_then took (event_if_named (offers_in messages) m w)) (λ m. receiver_in m.by m.body w) messages (λ m. share_taker (offers_in messages) m.by m.no m.body w)

-- of a wagon on its way
answers : (events : List Event) (messages : List Message) (w : ℕ) → events ≡ from_last (λ e. is_plan e.body) (events_from messages w) → is_some (newest took events) ≡ true → newest took events ≡ last_receiver messages w
answers events messages w e h =
    ap (newest took) e ∙ newest_part took (λ d. is_plan d.body) (events_from messages w) (ap (λ es. is_some (newest took es)) (sym e) ∙ h) ∙ shares_taker messages w

while_on_its_way : (b : Bool) (found last : Option Railway) → (is_some (cond b found None) ≡ true → found ≡ last) → (b ≡ true → is_some (cond b found None) ≡ true) → cond b found None ≡ cond b last None
while_on_its_way true found last h some = h (some refl)
while_on_its_way false found last h some = refl

some_found : (b : Bool) (found : Option Railway) → is_some (cond b found None) ≡ true → is_some found ≡ true
some_found true found h = h
some_found false found h = absurd (false≢true h)

pub last_receiver_answers : LastReceiverAnswers
last_receiver_answers calls w =
    let events = (state_after calls).journey w in
    while_on_its_way (is_on_its_way events) (newest took events) (last_receiver (accepted_in calls) w)
    (λ h. answers events (accepted_in calls) w (journey_list w calls) (some_found (is_on_its_way events) (newest took events) h))
    ((responsible-on_its_way events).1)
