-- What a new message changes.
use Rattle.hub_core.proofs.Common.{◌≡◌, ℕ, ◌<◌, Bool, true, false, ◌^◌, cond, length, List, [], ◌∷◌, ◌++◌, Option, Some, None, refl, ap, ◌∙◌, sym, subst, arith, is_some, option_or, Railway, Send, Accepted, Message, Body, OutboxState, with_items, Keeps, PushesLast, same_name, Entry, Fault, fits, HubState, FirstSend, fault, EstimatesFit, ItemsAreFew, items_of, items_to, verdict, send_reply, after, after_new, after_acceptance, offer_given, answer, state_of, table_part, IsAcceptable, Represents, KeepsLimits, LeadsTo, entry_of}
use Rattle.taf_messages.specs.declared.message.Body.TheVariants as body
use Rattle.interchange.specs.declared.offer.Offer.{Offer as AcceptedOffer}
use Rattle.hub_core.proofs.HistoryLemmas.{kept_more, leads_noted}

-- without a position there is no first send
led_to : (history : List Entry) (t : Option FirstSend) → LeadsTo history None t → t ≡ None
led_to history None h = refl
led_to history (Some t) h = absurd h

-- with a position there is one
pub led_from : (history : List Entry) (t : Option FirstSend) (p : ℕ) → LeadsTo history (Some p) t → is_some t ≡ true
led_from history (Some t) p h = refl
led_from history None p h = absurd h

-- an offer is given under the message's own name
given_elsewhere : (m : Message) (says : Body) (by : Railway) (n : ℕ) → same_name m.by m.no by n ≡ false → offer_given m says by n ≡ None
given_elsewhere m (body.Offer o) by n h = rw h
given_elsewhere m says by n h = refl

-- an offer that is not of this name was sent before
sent_before : (t : FirstSend) (before given : Option AcceptedOffer) (first : Option FirstSend) (b : Bool) → (b ≡ false → given ≡ None) → (first ≡ None → before ≡ None) →
    cond b (Some t) first ≡ None → option_or given before ≡ None
sent_before t before given first true g h e = cc
sent_before t before given first false g h e = ap (λ (o : Option AcceptedOffer). option_or o before) (g refl) ∙ h e

module _ {history : List Entry} {looked_up : HubState} {position : Railway → ℕ → Option ℕ} {box : Railway → OutboxState} (kept : Represents history looked_up position box) (room : length history < 1000000)
    (m : Message) (limits : KeepsLimits m) (new : position m.by m.no ≡ None) where
  abbrev pub s : HubState
  s = state_of history

  -- the send with the verdict, the first of its name
  abbrev pub first : Option Fault → FirstSend
  first f = record { message = m; reply = verdict m.no f }

  -- the positions, with the new name
  abbrev pub noted : Railway → ℕ → Option ℕ
  noted by n = cond (same_name m.by m.no by n) (Some (length history)) (position by n)

  new_name : s.first_send m.by m.no ≡ None
  new_name = led_to history (s.first_send m.by m.no) (rw new at (kept.firsts m.by m.no))

  pub new_answer : (f : Option Fault) → fault looked_up m ≡ f → verdict m.no f ≡ answer history (Send m)
  new_answer f e = sym (ap (send_reply s m) new_name ∙ ap (verdict m.no) (ap (λ (t : HubState). fault t m) (sym kept.tables) ∙ e))

  -- what is known after it
  after_it : (f : Option Fault) → after s (entry_of (first f)) ≡ after_new s m (verdict m.no f)
  after_it f = ap (λ (o : Option FirstSend). cond (is_some o) s (after_new s m (verdict m.no f))) new_name

  firsts_noted : (f : Option Fault) (by : Railway) (n : ℕ) → LeadsTo (history ++ entry_of (first f) ∷ []) (noted by n) (cond (same_name m.by m.no by n) (Some (first f)) (s.first_send by n))
  firsts_noted f by n = leads_noted history (first f) (same_name m.by m.no by n) (position by n) (s.first_send by n) (kept.firsts by n)

  pub kept_refused : (f : Fault) → fault looked_up m ≡ Some f → Represents (history ++ entry_of (first (Some f)) ∷ []) looked_up noted box
  kept_refused f e =
      kept_more kept room (entry_of (first (Some f))) limits (new_answer (Some f) e) (after_new s m (verdict m.no (Some f))) (after_it (Some f)) kept.tables (firsts_noted (Some f)) kept.boxes
      (λ by n h. sent_before (first (Some f)) (s.offer by n) None (s.first_send by n) (same_name m.by m.no by n) (λ b. refl) (kept.offers by n) h)

  pub kept_accepted : (push : PushesLast) → fault looked_up m ≡ None →
      Represents (history ++ entry_of (first None) ∷ []) (table_part (after_acceptance looked_up m)) noted (λ r. with_items (box r) (items_to r (items_of looked_up m)))
  kept_accepted push e =
      kept_more kept room (entry_of (first None)) limits (new_answer None e) (after_new s m (Accepted m.no)) (after_it None) (ap (λ (t : HubState). table_part (after_acceptance t m)) kept.tables) (firsts_noted None)
      (λ r. subst (λ (t : HubState). Keeps (with_items (box r) (items_to r (items_of t m))) (s.outbox r ++ items_to r (items_of s m)) (s.acknowledged r)) (sym kept.tables)
      (push (box r) (s.outbox r) (items_to r (items_of s m)) (s.acknowledged r) (kept.boxes r)))
      (λ by n h. sent_before (first None) (s.offer by n) (offer_given m m.body by n) (s.first_send by n) (same_name m.by m.no by n) (given_elsewhere m m.body by n) (kept.offers by n) h)

  -- it may be accepted where it has no fault
  pub acceptable : (fit : EstimatesFit) (push : PushesLast) → fault looked_up m ≡ None → IsAcceptable looked_up m
  acceptable fit push sound =
      let accepted = kept_accepted push sound in
      record {
        sound = sound;
        fits_after = λ w. subst (λ (t : HubState). fits (t.journey w) ≡ true) (sym accepted.tables) (fit (history ++ entry_of (first None) ∷ []) accepted.legal accepted.dated w);
        new_name = subst (λ (t : HubState). t.offer m.by m.no ≡ None) (sym kept.tables) (kept.offers m.by m.no new_name);
      }

  -- and makes few items then
  pub few_items : (few : ItemsAreFew) → fault looked_up m ≡ None → length (items_of looked_up m) < 2 ^ 62
  few_items few = subst (λ (t : HubState). fault t m ≡ None → length (items_of t m) < 2 ^ 62) (sym kept.tables) (λ sound. let small = few history m kept.legal kept.within limits.1 sound in omega (arith, small))
