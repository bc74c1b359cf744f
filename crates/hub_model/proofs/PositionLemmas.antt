-- The first send of a name stands in the history at its position.
use native.Mathlib.Omega.{arith}
use Rattle.hub_model.proofs.Common.{◌≡◌, ℕ, ◌+◌, Bool, true, false, cond, suc, List, [], ◌∷◌, length, Option, Some, None, refl, ap, ◌∙◌, sym, is_some, slice_get, not, nat_lt, option_or, option_and_then, fold, position_or_len, ltb-true, ltb-false, slice_get_past, Railway, Call, Send, Ask, AskUnit, Deviation, Fetch, Ack, Reply, Acknowledged, Message, oldest, same_name, Entry, HubState, FirstSend, new_state, after_acceptance, after_new, after_call, after, is_accepted, send_of_name, StandsAt, FirstSendsStand, option_or-none, option_or_assoc}
use Rattle.hub_model.proofs.NamedWagonLemmas.{from_same_name}

-- the first of a name stays, and a message is the first of its name where there was none
first_new : (s : HubState) (m : Message) (reply : Reply) (b : Bool) (by : Railway) (n : ℕ) → (cond b (after_acceptance s m) s).first_send by n ≡ s.first_send by n
first_new s m reply true by n = refl
first_new s m reply false by n = refl

first_cases : (m : Message) (reply : Reply) (first before now : Option FirstSend) (same : Bool) → (same ≡ true → before ≡ first) → now ≡ before →
    cond (is_some first) before (cond same (Some (record { message = m; reply = reply })) now) ≡ option_or before (cond same (Some (record { message = m; reply = reply })) None)
first_cases m reply None before now true h e = rw (h refl) refl
first_cases m reply None before now false h e = e ∙ sym (option_or-none before)
first_cases m reply (Some x) before now true h e = rw (h refl) refl
first_cases m reply (Some x) before now false h e = sym (option_or-none before)

look_either : (b : Bool) (s t : HubState) (by : Railway) (n : ℕ) → (cond b s t).first_send by n ≡ cond b (s.first_send by n) (t.first_send by n)
look_either true s t by n = refl
look_either false s t by n = refl

first_after : (s : HubState) (by : Railway) (n : ℕ) (call : Call) (reply : Reply) → (after_call s call reply).first_send by n ≡ option_or (s.first_send by n) (send_of_name by n call reply)
first_after s by n (Send m) reply =
    look_either (is_some (s.first_send m.by m.no)) s (after_new s m reply) by n ∙
    first_cases m reply (s.first_send m.by m.no) (s.first_send by n) ((cond (is_accepted reply) (after_acceptance s m) s).first_send by n) (same_name m.by m.no by n)
    (λ h. let e = from_same_name m.by by m.no n h in ap (λ r. s.first_send r n) (sym e.0) ∙ ap (λ k. s.first_send m.by k) (sym e.1))
    (first_new s m reply (is_accepted reply) by n)
first_after s by n (Ack r k) (Acknowledged i) = sym (option_or-none (s.first_send by n))
first_after s by n (Ack r k) _ = sym (option_or-none (s.first_send by n))
first_after s by n (Ask r w) reply = sym (option_or-none (s.first_send by n))
first_after s by n (AskUnit r u) reply = sym (option_or-none (s.first_send by n))
first_after s by n (Deviation r c) reply = sym (option_or-none (s.first_send by n))
first_after s by n (Fetch r limit) reply = sym (option_or-none (s.first_send by n))

first_from : (s : HubState) (by : Railway) (n : ℕ) (history : List Entry) → (fold after s history).first_send by n ≡ option_or (s.first_send by n) (oldest (λ e. send_of_name by n e.call e.reply) history)
first_from s by n [] = sym (option_or-none (s.first_send by n))
first_from s by n (e ∷ history) =
    first_from (after s e) by n history ∙
    ap (λ o. option_or o (oldest (λ d. send_of_name by n d.call d.reply) history)) (first_after s by n e.call e.reply) ∙
    option_or_assoc (s.first_send by n) (send_of_name by n e.call e.reply) (oldest (λ d. send_of_name by n d.call d.reply) history)

-- what is found first is found at the first place where something is found
found_step : {A B : Type 0} (f : A → Option B) (x : A) (xs : List A) (k : ℕ) (o : Option B) → f x ≡ o → oldest f xs ≡ option_and_then f (slice_get xs k) →
    option_or o (oldest f xs) ≡ option_and_then f (slice_get (x ∷ xs) (cond (not (is_some o)) (1 + k) 0))
found_step f x xs k (Some t) e h = sym e
found_step f x xs k None e h = let one : 1 + k ≡ suc k = omega arith in h ∙ ap (λ j. option_and_then f (slice_get (x ∷ xs) j)) (sym one)

found_at : {A B : Type 0} (f : A → Option B) (xs : List A) → oldest f xs ≡ option_and_then f (slice_get xs (position_or_len (λ x. is_some (f x)) xs))
found_at f [] = refl
found_at f (x ∷ xs) = found_step f x xs (position_or_len (λ y. is_some (f y)) xs) (f x) refl (found_at f xs)

some_same : (k i : ℕ) → Some k ≡ Some i → k ≡ i
some_same k i h = cc

first_told : (history : List Entry) (by : Railway) (n : ℕ) → (fold after new_state history).first_send by n ≡ oldest (λ e. send_of_name by n e.call e.reply) history
first_told history by n = first_from new_state by n history

module _ (history : List Entry) (by : Railway) (n : ℕ) where
  abbrev found : Entry → Option FirstSend
  found e = send_of_name by n e.call e.reply

  abbrev place : ℕ
  place = position_or_len (λ e. is_some (found e)) history

  stands : (i : ℕ) (b : Bool) → nat_lt place (length history) ≡ b → cond b (Some place) None ≡ Some i → StandsAt history by n i
  stands i true e h =
      let same = some_same place i h in
      record {
        within = rw (← same) (ltb-true place (length history) e);
        there = first_told history by n ∙ found_at found history ∙ ap (λ j. option_and_then found (slice_get history j)) same;
      }
  stands i false e h = cc

  none_stands : (b : Bool) → nat_lt place (length history) ≡ b → cond b (Some place) None ≡ None → (fold after new_state history).first_send by n ≡ None
  none_stands true e h = cc
  none_stands false e h =
      first_told history by n ∙ found_at found history ∙ ap (option_and_then found) (slice_get_past history place (ltb-false place (length history) e))

pub first_sends_stand : FirstSendsStand
first_sends_stand history by n =
    (λ i h. stands history by n i (nat_lt (place history by n) (length history)) refl h, λ h. none_stands history by n (nat_lt (place history by n) (length history)) refl h)
