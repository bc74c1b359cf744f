-- What one more message changes of each look-up.
use Rattle.hub_model.proofs.Common.{◌≡◌, ℕ, Bool, true, false, cond, List, [], ◌∷◌, ◌++◌, Option, Some, None, refl, ap, ◌∙◌, sym, append-nil, ◌&&◌, is_some, is_none, unwrap_or, option_or, fold-append, Railway, UnitCode, ConsignmentId, Call, Send, Accepted, ItemBody, Message, same_name, Entry, HubState, FirstSend, new_state, journey_after, Fault, fault, items_of, items_to, send_reply, verdict, after_acceptance, with_first_send, after_new, after, plan_given, unit_plan_given, offer_given, opening_given, state_of, state_after, step, accepts}

-- one more entry, and one more call
pub state_of-push : (history : List Entry) (e : Entry) → state_of (history ++ e ∷ []) ≡ after (state_of history) e
state_of-push history e = fold-append after new_state history (e ∷ [])

pub state_after-push : (calls : List Call) (call : Call) → state_after (calls ++ call ∷ []) ≡ step (state_after calls) call
state_after-push calls call = fold-append step new_state calls (call ∷ [])

-- after a message whose name was used, or was not, and that has a fault, or has none
abbrev pub sent : HubState → Message → Option FirstSend → Option Fault → HubState
sent s m (Some first) f = s
sent s m None (Some f) = with_first_send s m (verdict m.no (Some f))
sent s m None None = with_first_send (after_acceptance s m) m (Accepted m.no)

sent_by_fault : (s : HubState) (m : Message) (f : Option Fault) → after_new s m (verdict m.no f) ≡ sent s m None f
sent_by_fault s m None = refl
sent_by_fault s m (Some f) = refl

sent_by_first : (s : HubState) (m : Message) (first : Option FirstSend) → cond (is_some first) s (after_new s m (send_reply s m first)) ≡ sent s m first (fault s m)
sent_by_first s m (Some first) = refl
sent_by_first s m None = sent_by_fault s m (fault s m)

pub step-send : (s : HubState) (m : Message) → step s (Send m) ≡ sent s m (s.first_send m.by m.no) (fault s m)
step-send s m = sent_by_first s m (s.first_send m.by m.no)

-- the message is new, and has no fault
abbrev is_taken : Option FirstSend → Option Fault → Bool
is_taken first f = is_none first && is_none f

-- a look-up that accepting changes and noting doesn't
looked_up : {A : Type 0} (look : HubState → A) → ((s : HubState) (m : Message) (reply : FirstSend) → look (with_first_send s m reply.reply) ≡ look s) →
    (s : HubState) (m : Message) (first : Option FirstSend) (f : Option Fault) → look (sent s m first f) ≡ cond (is_taken first f) (look (after_acceptance s m)) (look s)
looked_up look same s m (Some first) f = refl
looked_up look same s m None (Some f) = same s m (record { message = m; reply = verdict m.no (Some f) })
looked_up look same s m None None = same (after_acceptance s m) m (record { message = m; reply = Accepted m.no })

pub step_looked_up : {A : Type 0} (look : HubState → A) → ((s : HubState) (m : Message) (reply : FirstSend) → look (with_first_send s m reply.reply) ≡ look s) →
    (s : HubState) (m : Message) → look (step s (Send m)) ≡ cond (accepts s m) (look (after_acceptance s m)) (look s)
step_looked_up look same s m = ap look (step-send s m) ∙ looked_up look same s m (s.first_send m.by m.no) (fault s m)

-- each look-up after one more message
pub step-journey : (s : HubState) (m : Message) (w : ℕ) → (step s (Send m)).journey w ≡ cond (accepts s m) (journey_after s m w) (s.journey w)
step-journey s m w = step_looked_up (λ t. t.journey w) (λ t n reply. refl) s m

pub step-plan_of : (s : HubState) (m : Message) (c : ConsignmentId) → (step s (Send m)).plan_of c ≡ cond (accepts s m) (option_or (plan_given m.body c) (s.plan_of c)) (s.plan_of c)
step-plan_of s m c = step_looked_up (λ t. t.plan_of c) (λ t n reply. refl) s m

pub step-unit_plan : (s : HubState) (m : Message) (u : UnitCode) → (step s (Send m)).unit_plan u ≡ cond (accepts s m) (option_or (unit_plan_given m.body u) (s.unit_plan u)) (s.unit_plan u)
step-unit_plan s m u = step_looked_up (λ t. t.unit_plan u) (λ t n reply. refl) s m

pub step-offer : (s : HubState) (m : Message) (by : Railway) (n : ℕ) → (step s (Send m)).offer by n ≡ cond (accepts s m) (option_or (offer_given m m.body by n) (s.offer by n)) (s.offer by n)
step-offer s m by n = step_looked_up (λ t. t.offer by n) (λ t k reply. refl) s m

pub step-is_open : (s : HubState) (m : Message) (by : Railway) (n : ℕ) → (step s (Send m)).is_open by n ≡ cond (accepts s m) (unwrap_or (opening_given m m.body by n) (s.is_open by n)) (s.is_open by n)
step-is_open s m by n = step_looked_up (λ t. t.is_open by n) (λ t k reply. refl) s m

-- the items that are added
abbrev pub added : HubState → Message → Railway → List ItemBody
added s m r = cond (accepts s m) (items_to r (items_of s m)) []

some_items : {A : Type 0} (b : Bool) (xs ys : List A) → cond b (xs ++ ys) xs ≡ xs ++ cond b ys []
some_items true xs ys = refl
some_items false xs ys = sym (append-nil xs)

pub step-outbox : (s : HubState) (m : Message) (r : Railway) → (step s (Send m)).outbox r ≡ s.outbox r ++ added s m r
step-outbox s m r = step_looked_up (λ t. t.outbox r) (λ t n reply. refl) s m ∙ some_items (accepts s m) (s.outbox r) (items_to r (items_of s m))

pub same_either : {A : Type 0} (b : Bool) (x : A) → cond b x x ≡ x
same_either true x = refl
same_either false x = refl

pub step-acknowledged : (s : HubState) (m : Message) (r : Railway) → (step s (Send m)).acknowledged r ≡ s.acknowledged r
step-acknowledged s m r = step_looked_up (λ t. t.acknowledged r) (λ t n reply. refl) s m ∙ same_either (accepts s m) (s.acknowledged r)

-- what a send leaves as the first of a name
abbrev pub first_after : Message → Option FirstSend → Option Fault → Option FirstSend → Railway → ℕ → Option FirstSend
first_after m first f before by n =
    cond (is_none first && same_name m.by m.no by n) (Some (record { message = m; reply = verdict m.no f })) before

sent-first_send : (s : HubState) (m : Message) (first : Option FirstSend) (f : Option Fault) (by : Railway) (n : ℕ) → (sent s m first f).first_send by n ≡ first_after m first f (s.first_send by n) by n
sent-first_send s m (Some first) f by n = refl
sent-first_send s m None (Some f) by n = refl
sent-first_send s m None None by n = refl

pub step-first_send : (s : HubState) (m : Message) (by : Railway) (n : ℕ) → (step s (Send m)).first_send by n ≡ first_after m (s.first_send m.by m.no) (fault s m) (s.first_send by n) by n
step-first_send s m by n = ap (λ t. t.first_send by n) (step-send s m) ∙ sent-first_send s m (s.first_send m.by m.no) (fault s m) by n
