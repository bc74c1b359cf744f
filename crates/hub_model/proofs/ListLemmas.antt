-- Plans, offers and items that are carried along are those of the accepted messages.
use Rattle.hub_model.proofs.Common.{◌≡◌, ℕ, Bool, true, false, cond, List, [], ◌∷◌, ◌++◌, Option, None, refl, ap, ◌∙◌, sym, append_assoc, append-nil, map, filter, flat_map, bytes_eq, option_or, fold, map-append, filter-append, Railway, UnitCode, ConsignmentId, Call, Send, Ask, AskUnit, Deviation, Fetch, Ack, Reply, Acknowledged, Message, newest, HubState, new_state, AddressedItem, items_of, items_to, reply_to, after_call, plan_given, unit_plan_given, offer_given, step, accepts, accepted_message, accepted_from, offers_in, items_from, option_or-none, option_or_assoc}
use Rattle.hub_model.proofs.StepLemmas.{step-plan_of, step-unit_plan, step-offer, step-outbox}

-- a look-up that no acknowledgement changes
abbrev pub IgnoresAcks : {A : Type 0} → (HubState → A) → Type 0
IgnoresAcks look = (s : HubState) (by : Railway) (k : ℕ) (reply : Reply) → look (after_call s (Ack by k) reply) ≡ look s

pub newest-append : {A B : Type 0} (f : A → Option B) (xs ys : List A) → newest f (xs ++ ys) ≡ option_or (newest f ys) (newest f xs)
newest-append f [] ys = sym (option_or-none (newest f ys))
newest-append f (x ∷ xs) ys = rw (newest-append f xs ys) (option_or_assoc (newest f ys) (newest f xs) (f x))

-- a look-up of the newest that accepted messages give
module _ {B : Type 0} (look : HubState → Option B) (f : Message → Option B) (acks : IgnoresAcks look)
    (sends : (s : HubState) (m : Message) → look (step s (Send m)) ≡ cond (accepts s m) (option_or (f m) (look s)) (look s)) where
  one_message : (b : Bool) (m : Message) (before : Option B) → cond b (option_or (f m) before) before ≡ option_or (newest f (cond b (m ∷ []) [])) before
  one_message true m before = refl
  one_message false m before = refl

  pub newest_step : (s : HubState) (call : Call) → look (step s call) ≡ option_or (newest f (accepted_message s call)) (look s)
  newest_step s (Send m) = sends s m ∙ one_message (accepts s m) m (look s)
  newest_step s (Ack by k) = acks s by k (reply_to s (Ack by k))
  newest_step s (Ask by w) = refl
  newest_step s (AskUnit by u) = refl
  newest_step s (Deviation by c) = refl
  newest_step s (Fetch by limit) = refl

  pub newest_all : (s : HubState) (calls : List Call) → look (fold step s calls) ≡ option_or (newest f (accepted_from s calls)) (look s)
  newest_all s [] = refl
  newest_all s (call ∷ calls) =
      newest_all (step s call) calls ∙
      ap (option_or (newest f (accepted_from (step s call) calls))) (newest_step s call) ∙
      sym (option_or_assoc (newest f (accepted_from (step s call) calls)) (newest f (accepted_message s call)) (look s)) ∙
      ap (λ o. option_or o (look s)) (sym (newest-append f (accepted_message s call) (accepted_from (step s call) calls)))

  pub newest_of : look new_state ≡ None → (calls : List Call) → look (fold step new_state calls) ≡ newest f (accepted_from new_state calls)
  newest_of e calls = newest_all new_state calls ∙ ap (option_or (newest f (accepted_from new_state calls))) e ∙ option_or-none (newest f (accepted_from new_state calls))

acks_plan_of : (c : ConsignmentId) → IgnoresAcks (λ s. s.plan_of c)
acks_plan_of c s by k (Acknowledged n) = refl
acks_plan_of c s by k _ = refl

acks_unit_plan : (u : UnitCode) → IgnoresAcks (λ s. s.unit_plan u)
acks_unit_plan u s by k (Acknowledged n) = refl
acks_unit_plan u s by k _ = refl

pub acks_offer : (by : Railway) (n : ℕ) → IgnoresAcks (λ s. s.offer by n)
acks_offer by n s r k (Acknowledged i) = refl
acks_offer by n s r k _ = refl

acks_outbox : (r : Railway) → IgnoresAcks (λ s. s.outbox r)
acks_outbox r s by k (Acknowledged n) = refl
acks_outbox r s by k _ = refl

pub plan_of_list : (c : ConsignmentId) (calls : List Call) → (fold step new_state calls).plan_of c ≡ newest (λ m. plan_given m.body c) (accepted_from new_state calls)
plan_of_list c calls = newest_of (λ s. s.plan_of c) (λ m. plan_given m.body c) (acks_plan_of c) (λ s m. step-plan_of s m c) refl calls

pub unit_plan_list : (u : UnitCode) (calls : List Call) → (fold step new_state calls).unit_plan u ≡ newest (λ m. unit_plan_given m.body u) (accepted_from new_state calls)
unit_plan_list u calls = newest_of (λ s. s.unit_plan u) (λ m. unit_plan_given m.body u) (acks_unit_plan u) (λ s m. step-unit_plan s m u) refl calls

pub offer_list : (by : Railway) (n : ℕ) (calls : List Call) → (fold step new_state calls).offer by n ≡ offers_in (accepted_from new_state calls) by n
offer_list by n calls = newest_of (λ s. s.offer by n) (λ m. offer_given m m.body by n) (acks_offer by n) (λ s m. step-offer s m by n) refl calls

-- items to a railway, of two lists
items_to-append : (r : Railway) (xs ys : List AddressedItem) → items_to r (xs ++ ys) ≡ items_to r xs ++ items_to r ys
items_to-append r xs ys =
    ap (map (λ i. i.body)) (filter-append (λ i. bytes_eq i.to r) xs ys) ∙ map-append (λ i. i.body) (filter (λ i. bytes_eq i.to r) xs) (filter (λ i. bytes_eq i.to r) ys)

items_of_taken : (s : HubState) (m : Message) (r : Railway) (b : Bool) → cond b (items_to r (items_of s m)) [] ≡ items_to r (flat_map (items_of s) (cond b (m ∷ []) []))
items_of_taken s m r true = ap (items_to r) (sym (append-nil (items_of s m)))
items_of_taken s m r false = refl

outbox_step : (s : HubState) (r : Railway) (call : Call) → (step s call).outbox r ≡ s.outbox r ++ items_to r (flat_map (items_of s) (accepted_message s call))
outbox_step s r (Send m) = step-outbox s m r ∙ ap (λ xs. s.outbox r ++ xs) (items_of_taken s m r (accepts s m))
outbox_step s r (Ack by k) = acks_outbox r s by k (reply_to s (Ack by k)) ∙ sym (append-nil (s.outbox r))
outbox_step s r (Ask by w) = sym (append-nil (s.outbox r))
outbox_step s r (AskUnit by u) = sym (append-nil (s.outbox r))
outbox_step s r (Deviation by c) = sym (append-nil (s.outbox r))
outbox_step s r (Fetch by limit) = sym (append-nil (s.outbox r))

outbox_all : (s : HubState) (r : Railway) (calls : List Call) → (fold step s calls).outbox r ≡ s.outbox r ++ items_to r (items_from s calls)
outbox_all s r [] = sym (append-nil (s.outbox r))
outbox_all s r (call ∷ calls) =
    outbox_all (step s call) r calls ∙
    ap (λ xs. xs ++ items_to r (items_from (step s call) calls)) (outbox_step s r call) ∙
    append_assoc (s.outbox r) (items_to r (flat_map (items_of s) (accepted_message s call))) (items_to r (items_from (step s call) calls)) ∙
    ap (λ xs. s.outbox r ++ xs) (sym (items_to-append r (flat_map (items_of s) (accepted_message s call)) (items_from (step s call) calls)))

pub outbox_list : (r : Railway) (calls : List Call) → (fold step new_state calls).outbox r ≡ items_to r (items_from new_state calls)
outbox_list r calls = outbox_all new_state r calls
