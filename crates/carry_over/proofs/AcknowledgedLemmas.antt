-- What an acknowledgement of each railway leaves of the items that stay.
use Rattle.hub_model.proofs.Common.{◌≡◌, ℕ, ◌≤◌, Bool, true, false, cond, List, [], ◌∷◌, ◌++◌, length, ◌+◌, suc, zero, Some, None, refl, ap, ◌∙◌, sym, inl, inr, ◌||◌, max, nat_lt, map, filter, flat_map, fold, take, drop, All, All-head, All-tail, All-nil, All-cons, All-append, All-filter, append-nil, IsSend, bytes_eq, bytes_eq-Decides, cases_Bool, ltb-true, map-append, filter-append, length-append, length-map, length-filter, fold-append, Railway, Call, Send, Ask, AskUnit, Deviation, Fetch, Ack, refused, Acknowledged, AckAhead, is_ahead, HubState, new_state, items_of, items_to, items_from, after_call, with_acknowledgement, step, state_after, accepted_message}
use Rattle.hub_model.specs.declared.addressed_item.AddressedItem.{AddressedItem}
use Rattle.hub_model.specs.Replies.{records_of}
use Rattle.hub_model.proofs.ListLemmas.{outbox_list}
use Rattle.hub_model.proofs.StepLemmas.{step-acknowledged}
use Rattle.std.proofs.Common.{arith}
use Rattle.std.specs.Prelude.{count_by}
use Rattle.carry_over.specs.Names.{Names, Divide, IsOnOneSide, is_of, stays, messages_of}
use Rattle.carry_over.specs.Carried.{AreSameFor, items_of_names}
use Rattle.carry_over.specs.Acknowledged.{staying_from, staying_items, acknowledged_staying, OthersAreAcknowledged, AcknowledgeAlone, is_one_of, carried, unacknowledged, GoesOn, CanGoOn, GoOnAlike}
use Rattle.carry_over.proofs.ReplyLemmas.{reply_alike}
use Rattle.carry_over.proofs.CarriedLemmas.{others_can_be_left_behind, others_do_not_matter, still_along}

-- the elements at which it is true
abbrev select : {A : Type 0} → List Bool → List A → List A
select [] xs = []
select (b ∷ bs) [] = []
select (b ∷ bs) (x ∷ xs) = cond b (x ∷ select bs xs) (select bs xs)

all_selected : {A : Type 0} (bs : List Bool) (xs : List A) → length bs ≡ length xs → All (λ b. b ≡ true) bs → select bs xs ≡ xs
all_selected [] [] e h = refl
all_selected [] (x ∷ xs) e h = absurd (omega (arith, e))
all_selected (b ∷ bs) [] e h = absurd (omega (arith, e))
all_selected (b ∷ bs) (x ∷ xs) e h =
    ap (λ c. cond c (x ∷ select bs xs) (select bs xs)) (All-head (λ c. c ≡ true) b bs h) ∙
    ap (λ ys. x ∷ ys) (all_selected bs xs (omega (arith, e)) (All-tail (λ c. c ≡ true) b bs h))

-- how many of the first ones are true
abbrev ones : ℕ → List Bool → ℕ
ones n bs = length (filter (λ b. b) (take n bs))

rest_choice : {A : Type 0} (x : A) (ys : List A) (bs : List Bool) (zs : List A) (b : Bool) → drop (length bs) ys ≡ zs → drop (length (cond b (b ∷ bs) bs)) (cond b (x ∷ ys) ys) ≡ zs
rest_choice x ys bs zs true e = e
rest_choice x ys bs zs false e = e

-- behind the first ones all that is left is selected
rest_selected : {A : Type 0} (n : ℕ) (bs : List Bool) (xs : List A) → length bs ≡ length xs → All (λ b. b ≡ true) (drop n bs) → drop (ones n bs) (select bs xs) ≡ drop n xs
rest_selected zero bs xs e h = all_selected bs xs e h
rest_selected (suc n) [] [] e h = refl
rest_selected (suc n) [] (x ∷ xs) e h = absurd (omega (arith, e))
rest_selected (suc n) (b ∷ bs) [] e h = absurd (omega (arith, e))
rest_selected (suc n) (b ∷ bs) (x ∷ xs) e h =
    rest_choice x (select bs xs) (filter (λ c. c) (take n bs)) (drop n xs) b (rest_selected n bs xs (omega (arith, e)) h)

few_choice : {A : Type 0} (x : A) (ys : List A) (bs : List Bool) (b : Bool) → length bs ≤ length ys → length (cond b (b ∷ bs) bs) ≤ length (cond b (x ∷ ys) ys)
few_choice x ys bs true e = omega (arith, e)
few_choice x ys bs false e = e

few_selected : {A : Type 0} (n : ℕ) (bs : List Bool) (xs : List A) → length bs ≡ length xs → ones n bs ≤ length (select bs xs)
few_selected zero bs xs e = omega arith
few_selected (suc n) [] xs e = omega arith
few_selected (suc n) (b ∷ bs) [] e = absurd (omega (arith, e))
few_selected (suc n) (b ∷ bs) (x ∷ xs) e = few_choice x (select bs xs) (filter (λ c. c) (take n bs)) b (few_selected n bs xs (omega (arith, e)))

select_all : {A : Type 0} (xs ys : List A) (bs : List Bool) → select (map (λ x. true) xs ++ bs) (xs ++ ys) ≡ xs ++ select bs ys
select_all [] ys bs = refl
select_all (x ∷ xs) ys bs = ap (λ zs. x ∷ zs) (select_all xs ys bs)

select_none : {A : Type 0} (xs ys : List A) (bs : List Bool) → select (map (λ x. false) xs ++ bs) (xs ++ ys) ≡ select bs ys
select_none [] ys bs = refl
select_none (x ∷ xs) ys bs = select_none xs ys bs

items_to-append : (r : Railway) (xs ys : List AddressedItem) → items_to r (xs ++ ys) ≡ items_to r xs ++ items_to r ys
items_to-append r xs ys = rw (filter-append (λ i. bytes_eq i.to r) xs ys) (map-append (λ i. i.body) (filter (λ i. bytes_eq i.to r) xs) (filter (λ i. bytes_eq i.to r) ys))

marked_choice : (r : Railway) (made rest more : List AddressedItem) (bs : List Bool) (b : Bool) → items_to r rest ≡ select bs (items_to r more) →
    items_to r (cond b made [] ++ rest) ≡ select (map (λ i. b) (items_to r made) ++ bs) (items_to r made ++ items_to r more)
marked_choice r made rest more bs true e =
    items_to-append r made rest ∙ ap (λ xs. items_to r made ++ xs) e ∙ sym (select_all (items_to r made) (items_to r more) bs)
marked_choice r made rest more bs false e = e ∙ sym (select_none (items_to r made) (items_to r more) bs)

module _ (names : Names) (r : Railway) where
  -- the items that stay are those of the marks
  items_marked : (s : HubState) (calls : List Call) → items_to r (items_of_names names s calls) ≡ select (staying_from names s r calls) (items_to r (items_from s calls))
  items_marked s [] = refl
  items_marked s (call ∷ calls) =
      let made = flat_map (items_of s) (accepted_message s call) in
      let more = items_from (step s call) calls in
      marked_choice r made (items_of_names names (step s call) calls) more (staying_from names (step s call) r calls) (stays names call) (items_marked (step s call) calls) ∙
      ap (select (map (λ i. stays names call) (items_to r made) ++ staying_from names (step s call) r calls)) (sym (items_to-append r made more))

  each_marked : (s : HubState) (calls : List Call) → length (staying_from names s r calls) ≡ length (items_to r (items_from s calls))
  each_marked s [] = refl
  each_marked s (call ∷ calls) =
      let made = flat_map (items_of s) (accepted_message s call) in
      let more = items_from (step s call) calls in
      length-append (map (λ i. stays names call) (items_to r made)) (staying_from names (step s call) r calls) ∙
      ap (λ n. n + length (staying_from names (step s call) r calls)) (length-map (items_to r made) (λ i. stays names call)) ∙
      ap (λ n. length (items_to r made) + n) (each_marked (step s call) calls) ∙
      sym (ap length (items_to-append r made more) ∙ length-append (items_to r made) (items_to r more))

-- messages acknowledge nothing
nothing_acked : (names : Names) (r : Railway) (calls : List Call) (t : HubState) → (fold step t (messages_of names calls)).acknowledged r ≡ t.acknowledged r
nothing_acked names r [] t = refl
nothing_acked names r (Send m ∷ calls) t =
    elim (cases_Bool (is_of names m)) [
      | inl e ↦ ap (λ b. (fold step t (cond b (Send m ∷ messages_of names calls) (messages_of names calls))).acknowledged r) e ∙ nothing_acked names r calls (step t (Send m)) ∙ step-acknowledged t m r
      | inr e ↦ ap (λ b. (fold step t (cond b (Send m ∷ messages_of names calls) (messages_of names calls))).acknowledged r) e ∙ nothing_acked names r calls t
    ]
nothing_acked names r (Ack by n ∷ calls) t = nothing_acked names r calls t
nothing_acked names r (Ask by w ∷ calls) t = nothing_acked names r calls t
nothing_acked names r (AskUnit by u ∷ calls) t = nothing_acked names r calls t
nothing_acked names r (Deviation by c ∷ calls) t = nothing_acked names r calls t
nothing_acked names r (Fetch by limit ∷ calls) t = nothing_acked names r calls t

not_ahead : (have n : ℕ) → n ≤ have → nat_lt have n ≡ false
not_ahead have n h =
    elim (cases_Bool (nat_lt have n)) [
      | inl e ↦ absurd (omega (arith, ltb-true have n e, h))
      | inr e ↦ e
    ]

acked_now : (u : HubState) (q : Railway) (k : ℕ) → is_ahead (u.outbox q) k ≡ false → max (u.acknowledged q) k ≡ k → step u (Ack q k) ≡ with_acknowledgement u q k
acked_now u q k e f =
    ap (λ b. after_call u (Ack q k) (cond b (refused None AckAhead None (Some (length (u.outbox q)))) (Acknowledged (max (u.acknowledged q) k)))) e ∙
    ap (with_acknowledgement u q) f

two_choices : (a b : Bool) (x y z : ℕ) → (a ≡ true → y ≡ x) → cond b x (cond a y z) ≡ cond (a || b) x z
two_choices true true x y z h = refl
two_choices true false x y z h = h refl
two_choices false true x y z h = refl
two_choices false false x y z h = refl

-- acknowledgements by these numbers, none of which is ahead or less than what was acknowledged
module _ (number : Railway → ℕ) where
  pub record MayFollow (u : HubState) : Type 0 where
    pub there : (q : Railway) → number q ≤ length (u.outbox q)
    pub further : (q : Railway) → u.acknowledged q ≤ number q

  abbrev acks : List Railway → List Call
  acks railways = map (λ r. Ack r (number r)) railways

  larger : (a b : ℕ) → a ≤ b → max a b ≡ b
  larger a b h = omega (arith, h)

  next_acked : (u : HubState) → MayFollow u → (q : Railway) → step u (Ack q (number q)) ≡ with_acknowledgement u q (number q)
  next_acked u f q = acked_now u q (number q) (not_ahead (length (u.outbox q)) (number q) (f.there q)) (larger (u.acknowledged q) (number q) (f.further q))

  choice_further : (a b : ℕ) (q r : Railway) (same : Bool) → bytes_eq q r ≡ same → a ≤ number r → cond same (number q) a ≤ number r
  choice_further a b q r true e h = let k : number q ≡ number r = ap number ((bytes_eq-Decides q r).0 e) in omega (arith, k)
  choice_further a b q r false e h = h

  follows : (u : HubState) → MayFollow u → (q : Railway) → MayFollow (with_acknowledgement u q (number q))
  follows u f q = record { there = f.there; further = λ r. choice_further (u.acknowledged r) 0 q r (bytes_eq q r) refl (f.further r) }

  all_acked : (railways : List Railway) (u : HubState) → MayFollow u → (r : Railway) → (fold step u (acks railways)).acknowledged r ≡ cond (is_one_of railways r) (number r) (u.acknowledged r)
  all_acked [] u f r = refl
  all_acked (q ∷ railways) u f r =
      ap (λ v. (fold step v (acks railways)).acknowledged r) (next_acked u f q) ∙
      all_acked railways (with_acknowledgement u q (number q)) (follows u f q) r ∙
      two_choices (bytes_eq q r) (is_one_of railways r) (number r) (number q) (u.acknowledged r) (λ e. ap number ((bytes_eq-Decides q r).0 e))

  -- nothing else changes
  unchanged : {A : Type 0} (look : HubState → A) → ((v : HubState) (q : Railway) (n : ℕ) → look (with_acknowledgement v q n) ≡ look v) → (railways : List Railway) (u : HubState) → MayFollow u → look (fold step u (acks railways)) ≡ look u
  unchanged look same [] u f = refl
  unchanged look same (q ∷ railways) u f =
      ap (λ v. look (fold step v (acks railways))) (next_acked u f q) ∙
      unchanged look same railways (with_acknowledgement u q (number q)) (follows u f q) ∙
      same u q (number q)

module _ (names : Names) (calls : List Call) (railways : List Railway) (d : Divide names calls) (alone : AcknowledgeAlone calls railways) where
  abbrev number : Railway → ℕ
  number = acknowledged_staying names calls

  abbrev before : HubState
  before = state_after calls

  abbrev kept : HubState
  kept = state_after (messages_of names calls)

  abbrev after : HubState
  after = state_after (carried names calls railways)

  kept_items : (r : Railway) → kept.outbox r ≡ select (staying_items names calls r) (items_to r (items_from new_state calls))
  kept_items r = (others_can_be_left_behind names calls d).items r ∙ items_marked names r new_state calls

  counted : (r : Railway) → number r ≡ ones (before.acknowledged r) (staying_items names calls r)
  counted r = sym (length-filter (λ b. b) (take (before.acknowledged r) (staying_items names calls r)))

  may_follow : MayFollow number kept
  may_follow = record {
    there = λ q.
        let few = few_selected (before.acknowledged q) (staying_items names calls q) (items_to q (items_from new_state calls)) (each_marked names q new_state calls) in
        rw (kept_items q, counted q) few;
    further = λ q. let none = nothing_acked names q calls new_state in omega (arith, none);
  }

  both : fold step kept (acks number railways) ≡ after
  both = sym (fold-append step new_state (messages_of names calls) (acks number railways))

  stays_as_it_was : {A : Type 0} (look : HubState → A) → ((v : HubState) (q : Railway) (n : ℕ) → look (with_acknowledgement v q n) ≡ look v) → look after ≡ look kept
  stays_as_it_was look same = ap look (sym both) ∙ unchanged number look same railways kept may_follow

  none_of_nothing : (r : Railway) → before.acknowledged r ≡ 0 → number r ≡ 0
  none_of_nothing r e = ap (λ n. count_by (λ b. b) (take n (staying_items names calls r))) e

  number_choice : (r : Railway) (b : Bool) → is_one_of railways r ≡ b → cond b (number r) (kept.acknowledged r) ≡ number r
  number_choice r true e = refl
  number_choice r false e = nothing_acked names r calls new_state ∙ sym (none_of_nothing r (alone r e))

  number_after : (r : Railway) → after.acknowledged r ≡ number r
  number_after r =
      ap (λ u. u.acknowledged r) (sym both) ∙ all_acked number railways kept may_follow r ∙ number_choice r (is_one_of railways r) refl

  same_unacknowledged : (r : Railway) → OthersAreAcknowledged names calls r → unacknowledged after r ≡ unacknowledged before r
  same_unacknowledged r h =
      ap (λ n. drop n (after.outbox r)) (number_after r ∙ counted r) ∙
      ap (drop (ones (before.acknowledged r) (staying_items names calls r))) (stays_as_it_was (λ u. u.outbox r) (λ v q n. refl) ∙ kept_items r) ∙
      rest_selected (before.acknowledged r) (staying_items names calls r) (items_to r (items_from new_state calls)) (each_marked names r new_state calls) h ∙
      ap (drop (before.acknowledged r)) (sym (outbox_list r calls))

  same_after : AreSameFor names before after
  same_after =
      let a = (others_can_be_left_behind names calls d).same in
      record {
        journey = λ w h. a.journey w h ∙ sym (stays_as_it_was (λ u. u.journey w) (λ v q n. refl));
        plan_of = λ c h. a.plan_of c h ∙ sym (stays_as_it_was (λ u. u.plan_of c) (λ v q n. refl));
        unit_plan = λ x h. a.unit_plan x h ∙ sym (stays_as_it_was (λ u. u.unit_plan x) (λ v q n. refl));
        offer = λ by n h. a.offer by n h ∙ sym (stays_as_it_was (λ u. u.offer by n) (λ v q k. refl));
        is_open = λ by n h. a.is_open by n h ∙ sym (stays_as_it_was (λ u. u.is_open by n) (λ v q k. refl));
        first_send = λ by n h. a.first_send by n h ∙ sym (stays_as_it_was (λ u. u.first_send by n) (λ v q k. refl));
      }

  pub goes_on : GoesOn names calls railways
  goes_on =
      let x = others_can_be_left_behind names calls d in
      record {
        same = same_after;
        replies = reply_alike names before after (still_along names calls d).sides same_after;
        unacknowledged = same_unacknowledged;
        fleet = stays_as_it_was (λ u. u.fleet) (λ v q n. refl) ∙ x.fleet;
        records = stays_as_it_was (λ u. records_of u u.fleet) (λ v q n. refl) ∙ x.records;
      }

pub can_go_on : CanGoOn
can_go_on names calls railways d alone = goes_on names calls railways d alone

-- the messages that stay are those that stay of what stayed, and no acknowledgement is among them
stay_again : (names : Names) (call : Call) (rest : List Call) (b : Bool) → stays names call ≡ b → messages_of names rest ≡ rest → messages_of names (cond b (call ∷ rest) rest) ≡ cond b (call ∷ rest) rest
stay_again names call rest true e k = ap (λ b. cond b (call ∷ messages_of names rest) (messages_of names rest)) e ∙ ap (λ calls. call ∷ calls) k
stay_again names call rest false e k = k

all_stay : (names : Names) (calls : List Call) → messages_of names (messages_of names calls) ≡ messages_of names calls
all_stay names [] = refl
all_stay names (call ∷ calls) = stay_again names call (messages_of names calls) (stays names call) refl (all_stay names calls)

no_ack_stays : (names : Names) (number : Railway → ℕ) (railways : List Railway) → messages_of names (acks number railways) ≡ []
no_ack_stays names number [] = refl
no_ack_stays names number (r ∷ railways) = no_ack_stays names number railways

acks_divide : (names : Names) (number : Railway → ℕ) (railways : List Railway) → Divide names (acks number railways)
acks_divide names number [] = All-nil (IsSend (IsOnOneSide names))
acks_divide names number (r ∷ railways) = All-cons (IsSend (IsOnOneSide names)) (Ack r (number r)) (acks number railways) tt (acks_divide names number railways)

pub go_on_alike : GoOnAlike
go_on_alike names calls more railways d e =
    let P = IsSend (IsOnOneSide names) in
    let number = acknowledged_staying names calls in
    let before = messages_of names calls in
    let kept : messages_of names (carried names calls railways) ≡ before =
    filter-append (stays names) before (acks number railways) ∙ ap (λ xs. xs ++ messages_of names (acks number railways)) (all_stay names calls) ∙
    ap (λ xs. before ++ xs) (no_ack_stays names number railways) ∙ append-nil before in
    others_do_not_matter names (calls ++ more) (carried names calls railways ++ more)
    (All-append P calls more d e)
    (All-append P (carried names calls railways) more (All-append P before (acks number railways) (All-filter (stays names) P calls d) (acks_divide names number railways)) e)
    (filter-append (stays names) calls more ∙ sym (filter-append (stays names) (carried names calls railways) more ∙ ap (λ xs. xs ++ messages_of names more) kept))
