-- What keeps the state, where a history has one more entry.
use Rattle.hub_core.proofs.Common.{◌≡◌, ℕ, ◌<◌, Bool, true, false, cond, length, List, [], ◌∷◌, ◌++◌, Option, Some, refl, ap, ◌∙◌, sym, subst, arith, slice_get_within, length-append, slice_get-left, Railway, Message, Reply, OutboxState, Keeps, Entry, moment_in, HubState, FirstSend, after, answer, state_of, EachSend, IsSend, IsMoment, IsWithinLimits, one_more_entry, state_of-push, table_part, Represents, LeadsTo, OffersWereSent, entry_of, IsLegal, SendKeepsLimits, slice_get_read, get_or_at_push}

-- a first send is still found once there are more entries
pub leads_on : (history : List Entry) (e : Entry) (o : Option ℕ) (t : Option FirstSend) → LeadsTo history o t → LeadsTo (history ++ e ∷ []) o t
leads_on history e (Some p) (Some t) h = slice_get-left history (e ∷ []) p (slice_get_within history p (entry_of t) h) ∙ h
leads_on history e o t h = h

-- a new name leads to the last entry, and the others as before
pub leads_noted : (history : List Entry) (t : FirstSend) (b : Bool) (o : Option ℕ) (u : Option FirstSend) → LeadsTo history o u →
    LeadsTo (history ++ entry_of t ∷ []) (cond b (Some (length history)) o) (cond b (Some t) u)
leads_noted history t true o u h =
    let more = history ++ entry_of t ∷ [] in
    slice_get_read more (length more) (length history) (entry_of t) refl (rw (length-append history (entry_of t ∷ [])) (omega arith)) (sym (get_or_at_push history (entry_of t)).1)
leads_noted history t false o u h = leads_on history (entry_of t) o u h

-- one entry more
pub each_more : (P : Message → Type 0) (history : List Entry) (e : Entry) → EachSend P history → IsSend P e.call → EachSend P (history ++ e ∷ [])
each_more P [] e d k = (k, tt)
each_more P (first ∷ history) e d k = (d.0, each_more P history e d.1 k)

module _ {history : List Entry} {looked_up : HubState} {position : Railway → ℕ → Option ℕ} {box : Railway → OutboxState} (kept : Represents history looked_up position box) (room : length history < 1000000)
    (e : Entry) (limits : SendKeepsLimits e.call) (answered : e.reply ≡ answer history e.call) where
  -- the state of the history with one entry more, which has the answer
  pub kept_more : {looked_up' : HubState} {position' : Railway → ℕ → Option ℕ} {box' : Railway → OutboxState} (s : HubState) → after (state_of history) e ≡ s → looked_up' ≡ table_part s →
      ((by : Railway) (n : ℕ) → LeadsTo (history ++ e ∷ []) (position' by n) (s.first_send by n)) → ((r : Railway) → Keeps (box' r) (s.outbox r) (s.acknowledged r)) → OffersWereSent s →
      Represents (history ++ e ∷ []) looked_up' position' box'
  kept_more {position' = position'} {box' = box'} s is tables firsts boxes offers =
      let now : s ≡ state_of (history ++ e ∷ []) = sym (state_of-push history e ∙ is) in
      record {
        legal = subst (λ (r : Reply). IsLegal (history ++ record { call = e.call; reply = r } ∷ [])) (sym answered) (one_more_entry history e.call kept.legal);
        dated = each_more (λ m. IsMoment (moment_in m.body)) history e kept.dated limits.0;
        within = each_more IsWithinLimits history e kept.within limits.1;
        few = rw (length-append history (e ∷ [])) (omega (arith, room));
        tables = tables ∙ ap table_part now;
        firsts = λ by n. subst (λ (t : HubState). LeadsTo (history ++ e ∷ []) (position' by n) (t.first_send by n)) now (firsts by n);
        boxes = λ r. subst (λ (t : HubState). Keeps (box' r) (t.outbox r) (t.acknowledged r)) now (boxes r);
        offers = subst OffersWereSent now offers;
      }
