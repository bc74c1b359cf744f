-- The journey that is carried along is the part of the wagon's events from the last plan on.
use Rattle.hub_model.proofs.Common.{◌≡◌, ℕ, Bool, true, false, cond, List, [], ◌∷◌, ◌++◌, refl, ap, ◌∙◌, sym, append_assoc, append-nil, ◌||◌, option_or, list_any, fold, fold-append, Railway, has, Call, Send, Ask, AskUnit, Deviation, Fetch, Ack, Reply, Acknowledged, Message, Event, newest, from_last, is_plan, HubState, Offers, new_state, named_wagons, event_for, with_event, reply_to, after_call, offer_given, step, accepts, accepted_message, accepted_from, offers_in}
use Rattle.hub_model.proofs.StepLemmas.{step-journey, step-offer}
use Rattle.hub_model.proofs.ListLemmas.{newest-append, newest_step, acks_offer}

-- the events that a wagon has of messages, which come after those before, each by the offers known at its place
abbrev pub shares_after : List Message → List Message → ℕ → List Event
shares_after before [] w = []
shares_after before (m ∷ messages) w =
    cond (has (named_wagons (offers_in before) m) w) (event_for (offers_in before) m w ∷ []) [] ++ shares_after (before ++ m ∷ []) messages w

-- two functions that give the same for all names
pub same_offers : (f g : Offers) → ((by : Railway) (n : ℕ) → f by n ≡ g by n) → f ≡ g
same_offers f g h = λ i by n. h by n i

pub offers_step : (s : HubState) (before : List Message) (call : Call) → s.offer ≡ offers_in before → (step s call).offer ≡ offers_in (before ++ accepted_message s call)
offers_step s before call e =
    same_offers (step s call).offer (offers_in (before ++ accepted_message s call))
    (λ by n.
    newest_step (λ t. t.offer by n) (λ m. offer_given m m.body by n) (acks_offer by n) (λ t m. step-offer t m by n) s call ∙
    ap (λ o. option_or (newest (λ m. offer_given m m.body by n) (accepted_message s call)) (o by n)) e ∙
    sym (newest-append (λ m. offer_given m m.body by n) before (accepted_message s call)))

carried_named : (h : Bool) (events : List Event) (e : Event) → cond h (with_event events e) events ≡ fold with_event events (cond h (e ∷ []) [] ++ [])
carried_named true events e = refl
carried_named false events e = refl

-- an accepted message carries the journey on by its event
carried_taken : (s : HubState) (before : List Message) (m : Message) (w : ℕ) (b : Bool) → s.offer ≡ offers_in before →
    cond b (cond (has (named_wagons s.offer m) w) (with_event (s.journey w) (event_for s.offer m w)) (s.journey w)) (s.journey w) ≡
    fold with_event (s.journey w) (shares_after before (cond b (m ∷ []) []) w)
carried_taken s before m w false e = refl
carried_taken s before m w true e =
    ap (λ o. cond (has (named_wagons o m) w) (with_event (s.journey w) (event_for o m w)) (s.journey w)) e ∙
    carried_named (has (named_wagons (offers_in before) m) w) (s.journey w) (event_for (offers_in before) m w)

pub acks_journey : (s : HubState) (w : ℕ) (by : Railway) (k : ℕ) (reply : Reply) → (after_call s (Ack by k) reply).journey w ≡ s.journey w
acks_journey s w by k (Acknowledged n) = refl
acks_journey s w by k _ = refl

carried : (s : HubState) (before : List Message) (w : ℕ) (call : Call) → s.offer ≡ offers_in before →
    (step s call).journey w ≡ fold with_event (s.journey w) (shares_after before (accepted_message s call) w)
carried s before w (Send m) e = step-journey s m w ∙ carried_taken s before m w (accepts s m) e
carried s before w (Ack by k) e = acks_journey s w by k (reply_to s (Ack by k))
carried s before w (Ask by v) e = refl
carried s before w (AskUnit by u) e = refl
carried s before w (Deviation by c) e = refl
carried s before w (Fetch by limit) e = refl

pub shares_after-append : (before ms ns : List Message) (w : ℕ) → shares_after before (ms ++ ns) w ≡ shares_after before ms w ++ shares_after (before ++ ms) ns w
shares_after-append before [] ns w = ap (λ b. shares_after b ns w) (sym (append-nil before))
shares_after-append before (m ∷ ms) ns w =
    let one : List Event = cond (has (named_wagons (offers_in before) m) w) (event_for (offers_in before) m w ∷ []) [] in
    ap (λ es. one ++ es) (shares_after-append (before ++ m ∷ []) ms ns w ∙ ap (λ b. shares_after (before ++ m ∷ []) ms w ++ shares_after b ns w) (append_assoc before (m ∷ []) ms)) ∙
    sym (append_assoc one (shares_after (before ++ m ∷ []) ms w) (shares_after (before ++ m ∷ ms) ns w))

carried_all : (s : HubState) (before : List Message) (w : ℕ) (calls : List Call) → s.offer ≡ offers_in before →
    (fold step s calls).journey w ≡ fold with_event (s.journey w) (shares_after before (accepted_from s calls) w)
carried_all s before w [] e = refl
carried_all s before w (call ∷ calls) e =
    carried_all (step s call) (before ++ accepted_message s call) w calls (offers_step s before call e) ∙
    ap (λ es. fold with_event es (shares_after (before ++ accepted_message s call) (accepted_from (step s call) calls) w)) (carried s before w call e) ∙
    sym (fold-append with_event (s.journey w) (shares_after before (accepted_message s call) w) (shares_after (before ++ accepted_message s call) (accepted_from (step s call) calls) w)) ∙
    ap (fold with_event (s.journey w)) (sym (shares_after-append before (accepted_message s call) (accepted_from (step s call) calls) w))

none_cases : (p any : Bool) (x : Event) (xs rest : List Event) → cond any rest (cond p (x ∷ xs) []) ≡ cond (p || any) (cond any rest (cond p (x ∷ xs) [])) []
none_cases true any x xs rest = refl
none_cases false true x xs rest = refl
none_cases false false x xs rest = refl

-- what events leave of a journey
none_left : (es : List Event) → from_last (λ e. is_plan e.body) es ≡ cond (list_any (λ e. is_plan e.body) es) (from_last (λ e. is_plan e.body) es) []
none_left [] = refl
none_left (x ∷ xs) = none_cases (is_plan x.body) (list_any (λ e. is_plan e.body) xs) x xs (from_last (λ e. is_plan e.body) xs)

abbrev left_of : List Event → List Event → List Event
left_of [] es = from_last (λ e. is_plan e.body) es
left_of (first ∷ events) es = cond (list_any (λ e. is_plan e.body) es) (from_last (λ e. is_plan e.body) es) ((first ∷ events) ++ es)

last_cases : (p any : Bool) (x : Event) (xs rest before : List Event) →
    cond p (cond any rest (x ∷ xs)) (cond any rest ((before ++ x ∷ []) ++ xs)) ≡ cond (p || any) (cond any rest (cond p (x ∷ xs) [])) (before ++ x ∷ xs)
last_cases true true x xs rest before = refl
last_cases true false x xs rest before = refl
last_cases false true x xs rest before = refl
last_cases false false x xs rest before = append_assoc before (x ∷ []) xs

from_none : (p : Bool) (x : Event) (xs : List Event) → ((es : List Event) → fold with_event es xs ≡ left_of es xs) →
    fold with_event (cond p (x ∷ []) []) xs ≡ cond (list_any (λ e. is_plan e.body) xs) (from_last (λ e. is_plan e.body) xs) (cond p (x ∷ xs) [])
from_none true x xs h = h (x ∷ [])
from_none false x xs h = h [] ∙ none_left xs

from_some : (p : Bool) (first : Event) (events : List Event) (x : Event) (xs : List Event) → ((es : List Event) → fold with_event es xs ≡ left_of es xs) →
    fold with_event (cond p (x ∷ []) (first ∷ events ++ x ∷ [])) xs ≡
    cond p (cond (list_any (λ e. is_plan e.body) xs) (from_last (λ e. is_plan e.body) xs) (x ∷ xs)) (cond (list_any (λ e. is_plan e.body) xs) (from_last (λ e. is_plan e.body) xs) ((first ∷ events ++ x ∷ []) ++ xs))
from_some true first events x xs h = h (x ∷ [])
from_some false first events x xs h = h (first ∷ events ++ x ∷ [])

folded : (events es : List Event) → fold with_event events es ≡ left_of events es
folded [] [] = refl
folded (first ∷ events) [] = sym (append-nil (first ∷ events))
folded [] (x ∷ xs) = from_none (is_plan x.body) x xs (λ es. folded es xs)
folded (first ∷ events) (x ∷ xs) =
    from_some (is_plan x.body) first events x xs (λ es. folded es xs) ∙
    last_cases (is_plan x.body) (list_any (λ e. is_plan e.body) xs) x xs (from_last (λ e. is_plan e.body) xs) (first ∷ events)

pub journey_from : (w : ℕ) (calls : List Call) → (fold step new_state calls).journey w ≡ from_last (λ e. is_plan e.body) (shares_after [] (accepted_from new_state calls) w)
journey_from w calls = carried_all new_state [] w calls refl ∙ folded [] (shares_after [] (accepted_from new_state calls) w)
