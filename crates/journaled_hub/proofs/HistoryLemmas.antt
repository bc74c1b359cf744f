-- A hub that is opened after a crash has the history that was written, and replies to a message as at first.
use Rattle.std.proofs.Common.{◌≡◌, ℕ, Bool, true, false, List, [], ◌∷◌, ◌++◌, refl, sym, ap, subst, ◌∙◌, Option, Some, None, drop, append-nil, take-append-drop}
use Rattle.std.specs.Prelude.{◌==◌, bytes_eq, is_some, fold, if◌then◌else◌}
use Rattle.std.proofs.lemmas.Bool.{false≢true, and_from}
use Rattle.journal.specs.Lines.{recovered_lines, StandsFor}
use Rattle.taf_messages.specs.Content.{same_message, same_body, same_kind}
use Rattle.taf_messages.specs.declared.call.Call.{Call}
use Rattle.taf_messages.specs.declared.call.Call.TheVariants.{Send, Ask, AskUnit, Deviation, Fetch, Ack}
use Rattle.taf_messages.specs.declared.message.Message.{Message}
use Rattle.taf_messages.specs.declared.reply.Reply.{Reply}
use Rattle.taf_messages.specs.declared.reply.Reply.TheVariants.{Acknowledged}
use Rattle.taf_messages.specs.declared.message.Body.{Body}
use Rattle.taf_messages.specs.declared.message.Body.TheVariants as body
use Rattle.taf_messages.specs.declared.movement.MovementKind.{MovementKind}
use Rattle.taf_messages.specs.declared.movement.MovementKind.TheVariants.{Release, Departure, YardArrival, YardDeparture, Exception, Estimate, Arrival, Delivery}
use Rattle.trip_plan.specs.SameContent.{plans, legs, wagons}
use Rattle.taf_codes.specs.Words.{same_text}
use Rattle.taf_codes.specs.Equality.{texts, numbers}
use Rattle.replay_numbers.specs.Names.{same_name}
use Rattle.hub_model.specs.declared.entry.Entry.{Entry}
use Rattle.hub_model.specs.HubState.{HubState, FirstSend, new_state}
use Rattle.hub_model.specs.Replies.{reply_to, send_reply}
use Rattle.hub_model.specs.Updates.{after, after_call, after_new, after_acceptance, is_accepted}
use Rattle.hub_model.specs.Histories.{IsLegalFrom, answer, state_of}
use Rattle.hub_model.proofs.NamedWagonLemmas.{from_same_name}
use Rattle.journal_lines.specs.Laws.{LinesTellTheCalls}
use Rattle.journaled_hub.specs.HistoryLines.{calls_of, lines_of_history}
use Rattle.journaled_hub.specs.Laws.{HistoriesComeBack, RepliesStay, RepliesOutliveACrash, sent}

-- ---- the same calls, the same entries

same_entry : (s : HubState) (d e : Entry) → d.call ≡ e.call → d.reply ≡ reply_to s d.call → e.reply ≡ reply_to s e.call → d ≡ e
same_entry s d e call p q = let reply : d.reply ≡ e.reply = p ∙ ap (reply_to s) call ∙ sym q in λ i. record { call = call i; reply = reply i }

heads : (x y : Call) (xs ys : List Call) → x ∷ xs ≡ y ∷ ys → x ≡ y
heads x y xs ys e = cc

tails : (x y : Call) (xs ys : List Call) → x ∷ xs ≡ y ∷ ys → xs ≡ ys
tails x y xs ys e = cc

same_history : (s : HubState) (ds es : List Entry) → IsLegalFrom s ds → IsLegalFrom s es → calls_of ds ≡ calls_of es → ds ≡ es
same_history s [] [] p q h = refl
same_history s [] (e ∷ es) p q h = absurd (cc)
same_history s (d ∷ ds) [] p q h = absurd (cc)
same_history s (d ∷ ds) (e ∷ es) p q h =
    let same : d ≡ e = same_entry s d e (heads d.call e.call (calls_of ds) (calls_of es) h) p.0 q.0 in
    let legal : IsLegalFrom (after s e) ds = subst (λ (x : Entry). IsLegalFrom (after s x) ds) same p.1 in
    ap (λ (x : Entry). x ∷ ds) same ∙ ap (λ (l : List Entry). e ∷ l) (same_history (after s e) ds es legal q.1 (tails d.call e.call (calls_of ds) (calls_of es) h))

-- what bytes stand for is found in them
found_again : (bytes : List ℕ) (lines : List (List ℕ)) → StandsFor bytes lines → recovered_lines bytes ≡ lines
found_again bytes lines h =
    ap recovered_lines (sym (take-append-drop h.0 bytes)) ∙ h.1.front.stand_for (drop h.0 bytes) ∙ ap (λ l. lines ++ l) h.1.nothing ∙ append-nil lines

pub histories_come_back : LinesTellTheCalls → HistoriesComeBack
histories_come_back law bytes written opened h =
    let lines = h.lines ∙ found_again bytes (lines_of_history written) h.left in
    same_history new_state opened written h.legal_opened h.legal_written (law (calls_of opened) (calls_of written) h.limits_opened h.limits_written lines)

-- ---- the first send of a name stays

abbrev Has : HubState → Message → Reply → Type 0
Has s m reply = (first : FirstSend) × ((s.first_send m.by m.no ≡ Some first) × (send_reply s m (Some first) ≡ reply))

name_itself : (by : List ℕ) (n : ℕ) → same_name by n by n ≡ true
name_itself by n = and_from (bytes_eq by by) (n == n) (texts.itself by) (numbers.itself n)

kind_itself : (k : MovementKind) → same_kind k k ≡ true
kind_itself Release = refl
kind_itself Departure = refl
kind_itself (YardArrival place) = texts.itself place
kind_itself (YardDeparture place) = texts.itself place
kind_itself (Exception delay) = numbers.itself delay
kind_itself Estimate = refl
kind_itself Arrival = refl
kind_itself Delivery = refl

manager_itself : (o : Option (List ℕ)) → same_text o o ≡ true
manager_itself None = refl
manager_itself (Some railway) = texts.itself railway

body_itself : (b : Body) → same_body b b ≡ true
body_itself (body.Plan p) = plans.itself p
body_itself (body.Movement m) = rw (numbers.itself m.wagon, numbers.itself m.at) (kind_itself m.what)
body_itself (body.EtiAsk w) = numbers.itself w
body_itself (body.LegTime w leg minutes) = rw (numbers.itself w, numbers.itself leg) (numbers.itself minutes)
body_itself (body.Offer o) = rw (numbers.itself o.at, texts.itself o.train, texts.itself o.place, texts.itself o.to) (wagons.itself o.wagons)
body_itself (body.Answer a) =
    rw (numbers.itself a.at, texts.itself a.offerer, numbers.itself a.offer, wagons.itself a.received, wagons.itself a.refused) (manager_itself a.manager)
body_itself (body.Withdraw at offer) = rw (numbers.itself at) (numbers.itself offer)
body_itself (body.Reroute w route) = rw (numbers.itself w) (legs.itself route)

message_itself : (m : Message) → same_message m m ≡ true
message_itself m = rw (texts.itself m.by, numbers.itself m.no) (body_itself m.body)

module _ (s : HubState) (m : Message) (reply : Reply) where
  abbrev own : FirstSend
  own = record { message = m; reply = reply }

  new_is_first : (t : HubState) (b : Bool) → b ≡ true → (before : Option FirstSend) → (if b then Some own else before) ≡ Some own
  new_is_first t true h before = refl
  new_is_first t false h before = absurd (false≢true h)

  own_reply : (b : Bool) (other : Reply) → b ≡ true → (if b then reply else other) ≡ reply
  own_reply true other h = refl
  own_reply false other h = absurd (false≢true h)

  first_case : (o : Option FirstSend) → s.first_send m.by m.no ≡ o → reply ≡ send_reply s m o → Has (after_call s (Send m) reply) m reply
  first_case (Some first) e h =
      subst (λ (x : Option FirstSend). Has (if is_some x then s else after_new s m reply) m reply) (sym e) (first, (e, sym h))
  first_case None e h =
      subst (λ (x : Option FirstSend). Has (if is_some x then s else after_new s m reply) m reply) (sym e)
      (own, (new_is_first s (same_name m.by m.no m.by m.no) (name_itself m.by m.no) _, own_reply (same_message m m) _ (message_itself m)))

accepts_first : (b : Bool) (s : HubState) (n m : Message) → (if b then after_acceptance s n else s).first_send m.by m.no ≡ s.first_send m.by m.no
accepts_first true s n m = refl
accepts_first false s n m = refl

module _ (s : HubState) (n : Message) (r : Reply) (m : Message) (first : FirstSend) (h : s.first_send m.by m.no ≡ Some first) where
  by_name : (b : Bool) → same_name n.by n.no m.by m.no ≡ b → s.first_send n.by n.no ≡ None →
      (if b then Some (record { message = n; reply = r }) else (if is_accepted r then after_acceptance s n else s).first_send m.by m.no) ≡ Some first
  by_name true e none =
      let same = from_same_name n.by m.by n.no m.no e in
      let there : s.first_send n.by n.no ≡ Some first = (λ i. s.first_send (same.0 i) (same.1 i)) ∙ h in absurd (cc)
  by_name false e none = accepts_first (is_accepted r) s n m ∙ h

  send_keeps : (o : Option FirstSend) → s.first_send n.by n.no ≡ o → (after_call s (Send n) r).first_send m.by m.no ≡ Some first
  send_keeps (Some other) e = subst (λ (x : Option FirstSend). (if is_some x then s else after_new s n r).first_send m.by m.no ≡ Some first) (sym e) h
  send_keeps None e =
      subst (λ (x : Option FirstSend). (if is_some x then s else after_new s n r).first_send m.by m.no ≡ Some first) (sym e)
      (by_name (same_name n.by n.no m.by m.no) refl e)

call_keeps : (s : HubState) (call : Call) (r : Reply) (m : Message) (first : FirstSend) → s.first_send m.by m.no ≡ Some first → (after_call s call r).first_send m.by m.no ≡ Some first
call_keeps s (Send n) r m first h = send_keeps s n r m first h (s.first_send n.by n.no) refl
call_keeps s (Ack by k) (Acknowledged i) m first h = h
call_keeps s (Ack by k) _ m first h = h
call_keeps s (Ask by w) r m first h = h
call_keeps s (AskUnit by u) r m first h = h
call_keeps s (Deviation by c) r m first h = h
call_keeps s (Fetch by limit) r m first h = h

all_keep : (s : HubState) (history : List Entry) (m : Message) (reply : Reply) → Has s m reply → Has (fold after s history) m reply
all_keep s [] m reply h = h
all_keep s (e ∷ history) m reply h = all_keep (after s e) history m reply (h.0, (call_keeps s e.call e.reply m h.0 h.1.0, h.1.1))

replied_from : (s : HubState) (front rest : List Entry) (m : Message) (reply : Reply) → IsLegalFrom s (front ++ sent m reply ∷ rest) → Has (fold after s (front ++ sent m reply ∷ rest)) m reply
replied_from s [] rest m reply legal = all_keep (after s (sent m reply)) rest m reply (first_case s m reply (s.first_send m.by m.no) refl legal.0)
replied_from s (e ∷ front) rest m reply legal = replied_from (after s e) front rest m reply legal.1

again : (s : HubState) (m : Message) (reply : Reply) → Has s m reply → reply_to s (Send m) ≡ reply
again s m reply h = ap (send_reply s m) h.1.0 ∙ h.1.1

pub replies_stay : RepliesStay
replies_stay front rest m reply legal = again (state_of (front ++ sent m reply ∷ rest)) m reply (replied_from new_state front rest m reply legal)

pub replies_outlive : LinesTellTheCalls → RepliesOutliveACrash
replies_outlive law bytes front rest opened m reply h =
    ap (λ (l : List Entry). answer l (Send m)) (histories_come_back law bytes (front ++ sent m reply ∷ rest) opened h) ∙ replies_stay front rest m reply h.legal_written
