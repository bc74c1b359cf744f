use Rattle.hub_core.proofs.Common.{max, bytes_eq, ◌≡◌, ℕ, ◌<◌, Bool, true, false, cond, length, List, [], ◌∷◌, ◌++◌, Option, Some, None, refl, ap, ◌∙◌, sym, subst, ◌≤◌, rules, le-ltb, texts, Railway, Ack, ItemBody, Acknowledged, refused, position_of, Keeps, Acknowledges, OutboxState, acknowledged_up_to, answer, state_of, HubState, with_acknowledgement, Entry, table_state, Represents, transport⁻¹}
use Rattle.taf_messages.specs.declared.reply.Why.TheVariants.{AckAhead as Ahead}
use Rattle.hub_core.proofs.HistoryLemmas.{kept_more, leads_on}
use Rattle.hub_core.proofs.ack.apply_ack.Goals as goal

-- the box of one railway after it
keeps_acked : (acks : Acknowledges) (b : Bool) (k : OutboxState) (bodies : List ItemBody) (a m n : ℕ) → Keeps k bodies a → (b ≡ true → (n ≤ length bodies) × (m ≡ max a n)) → Keeps (cond b (acknowledged_up_to k n) k) bodies (cond b m a)
keeps_acked acks true k bodies a m n keeps h = subst (Keeps (acknowledged_up_to k n) bodies) (sym (h refl).1) (acks k bodies a n keeps (h refl).0)
keeps_acked acks false k bodies a m n keeps h = keeps

module _ {history : List Entry} {looked_up : HubState} {position : Railway → ℕ → Option ℕ} {box : Railway → OutboxState} (kept : Represents history looked_up position box) (room : length history < 1000000)
    (by : Railway) (n stands : ℕ) (within : n ≤ length ((state_of history).outbox by)) (number : stands ≡ max (box by).acknowledged n) where
  abbrev s : HubState
  s = state_of history

  stands_there : stands ≡ max (s.acknowledged by) n
  stands_there = number ∙ ap (λ (a : ℕ). max a n) (kept.boxes by).number

  ack_answer : Acknowledged stands ≡ answer history (Ack by n)
  ack_answer = ap Acknowledged stands_there ∙ ap (λ (b : Bool). cond b (refused None Ahead None (Some (length (s.outbox by)))) (Acknowledged (max (s.acknowledged by) n))) (sym (le-ltb (length (s.outbox by)) n within))

  kept_ack : (acks : Acknowledges) → Represents (history ++ record { call = Ack by n; reply = Acknowledged stands } ∷ []) looked_up position (λ r. cond (bytes_eq by r) (acknowledged_up_to (box r) n) (box r))
  kept_ack acks =
      let e : Entry = record { call = Ack by n; reply = Acknowledged stands } in
      kept_more kept room e (tt, tt) ack_answer (with_acknowledgement s by stands) refl kept.tables (λ also k. leads_on history e (position also k) (s.first_send also k) (kept.firsts also k))
      (λ r. keeps_acked acks (bytes_eq by r) (box r) (s.outbox r) (s.acknowledged r) stands n (kept.boxes r)
      (λ e. subst (λ (q : Railway). (n ≤ length (s.outbox q)) × (stands ≡ max (s.acknowledged q) n)) (texts.equal by r e) (within, stands_there)))
      kept.offers

pub returns-in-Ok : goal.returns-in-Ok
returns-in-Ok c =
    let b = c.args.state.now in
    let n = c.get.result in
    let laws = c.boxes_keep_the_lists.ensures in
    let o = c.in-Ok.ensures in
    let kept = c.requires.ready.0 in
    let within : n ≤ length ((state_of b.history.entries).outbox c.args.by) = subst (λ (k : ℕ). n ≤ k) (laws.last _ _ _ (kept.boxes c.args.by)) (o.when.0 refl) in
    let entered : c.push_reserved.new.self.entries ≡ b.history.entries ++ record { call = Ack c.args.by n; reply = Acknowledged c.in-Ok.stands } ∷ [] =
    (λ i. (c.push_reserved.ensures i).entries) ∙ (λ i. c.in_ok-reserve.ensures.entries i ++ record { call = Ack c.args.by (sym c.get.ensures.value i); reply = Acknowledged c.in-Ok.stands } ∷ []) in
    let kept_now = transport⁻¹ (λ i. Represents (entered i) (table_state b.tables) (position_of b.seen) (λ r. o.kept r i)) (kept_ack kept c.requires.ready.1 c.args.by n c.in-Ok.stands within o.stands laws.acknowledgement) in
    let answered = ack_answer kept c.requires.ready.1 c.args.by n c.in-Ok.stands within o.stands ∙ ap (λ (k : ℕ). answer b.history.entries (Ack c.args.by k)) c.get.ensures.value in
    search (rules, kept_now, answered)
