-- First sends and acknowledgements that are carried along are those of the calls.
use Rattle.hub_model.proofs.Common.{◌≡◌, ℕ, Bool, true, false, cond, not, List, [], ◌∷◌, Option, Some, None, refl, ap, ◌∙◌, sym, ◌&&◌, max, is_none, bytes_eq, option_or, fold, bytes_eq-Decides, fold-append, Railway, Call, Send, Ask, AskUnit, Deviation, Fetch, Ack, Reply, refused, Acknowledged, AckAhead, Message, oldest, is_ahead, same_name, HubState, FirstSend, new_state, fault, reply_to, send_reply, verdict, after_call, step, send_of_name, entries_from, acknowledged_by, acknowledged_from, greatest, option_or-none, option_or_assoc}
use Rattle.hub_model.proofs.NamedWagonLemmas.{from_same_name}
use Rattle.hub_model.proofs.StepLemmas.{step-first_send, step-acknowledged}

-- the first of a name stays, and a message is the first of its name where there was none
first_cases : (s : HubState) (m : Message) (first before : Option FirstSend) (same : Bool) → (same ≡ true → before ≡ first) →
    cond (is_none first && same) (Some (record { message = m; reply = verdict m.no (fault s m) })) before ≡
    option_or before (cond same (Some (record { message = m; reply = send_reply s m first })) None)
first_cases s m None before true h = rw (h refl) refl
first_cases s m None before false h = sym (option_or-none before)
first_cases s m (Some x) before true h = rw (h refl) refl
first_cases s m (Some x) before false h = sym (option_or-none before)

acks_first : (s : HubState) (by r : Railway) (n k : ℕ) (reply : Reply) → (after_call s (Ack r k) reply).first_send by n ≡ s.first_send by n
acks_first s by r n k (Acknowledged i) = refl
acks_first s by r n k _ = refl

first_step : (s : HubState) (by : Railway) (n : ℕ) (call : Call) → (step s call).first_send by n ≡ option_or (s.first_send by n) (send_of_name by n call (reply_to s call))
first_step s by n (Send m) =
    step-first_send s m by n ∙
    first_cases s m (s.first_send m.by m.no) (s.first_send by n) (same_name m.by m.no by n)
    (λ h. let e = from_same_name m.by by m.no n h in ap (λ r. s.first_send r n) (sym e.0) ∙ ap (λ k. s.first_send m.by k) (sym e.1))
first_step s by n (Ack r k) = acks_first s by r n k (reply_to s (Ack r k)) ∙ sym (option_or-none (s.first_send by n))
first_step s by n (Ask r w) = sym (option_or-none (s.first_send by n))
first_step s by n (AskUnit r u) = sym (option_or-none (s.first_send by n))
first_step s by n (Deviation r c) = sym (option_or-none (s.first_send by n))
first_step s by n (Fetch r limit) = sym (option_or-none (s.first_send by n))

first_all : (s : HubState) (by : Railway) (n : ℕ) (calls : List Call) →
    (fold step s calls).first_send by n ≡ option_or (s.first_send by n) (oldest (λ e. send_of_name by n e.call e.reply) (entries_from s calls))
first_all s by n [] = sym (option_or-none (s.first_send by n))
first_all s by n (call ∷ calls) =
    first_all (step s call) by n calls ∙
    ap (λ o. option_or o (oldest (λ e. send_of_name by n e.call e.reply) (entries_from (step s call) calls))) (first_step s by n call) ∙
    option_or_assoc (s.first_send by n) (send_of_name by n call (reply_to s call)) (oldest (λ e. send_of_name by n e.call e.reply) (entries_from (step s call) calls))

pub first_send_list : (by : Railway) (n : ℕ) (calls : List Call) → (fold step new_state calls).first_send by n ≡ oldest (λ e. send_of_name by n e.call e.reply) (entries_from new_state calls)
first_send_list by n calls = first_all new_state by n calls

-- an acknowledgement counts where it is this railway's, and not ahead
ack_cases : (s : HubState) (by r : Railway) (n : ℕ) (last : Option ℕ) (ahead same : Bool) → same ≡ bytes_eq by r →
    (after_call s (Ack by n) (cond ahead (refused None AckAhead None last) (Acknowledged (max (s.acknowledged by) n)))).acknowledged r ≡
    fold max (s.acknowledged r) (cond (same && not ahead) (n ∷ []) [])
ack_cases s by r n last true true e = refl
ack_cases s by r n last true false e = refl
ack_cases s by r n last false true e =
    ap (λ c. cond c (max (s.acknowledged by) n) (s.acknowledged r)) (sym e) ∙ ap (λ q. max (s.acknowledged q) n) ((bytes_eq-Decides by r).0 (sym e))
ack_cases s by r n last false false e = ap (λ c. cond c (max (s.acknowledged by) n) (s.acknowledged r)) (sym e)

ack_step : (s : HubState) (r : Railway) (call : Call) → (step s call).acknowledged r ≡ fold max (s.acknowledged r) (acknowledged_by s r call)
ack_step s r (Send m) = step-acknowledged s m r
ack_step s r (Ack by n) = ack_cases s by r n _ (is_ahead (s.outbox by) n) (bytes_eq by r) refl
ack_step s r (Ask by w) = refl
ack_step s r (AskUnit by u) = refl
ack_step s r (Deviation by c) = refl
ack_step s r (Fetch by limit) = refl

ack_all : (s : HubState) (r : Railway) (calls : List Call) → (fold step s calls).acknowledged r ≡ fold max (s.acknowledged r) (acknowledged_from s r calls)
ack_all s r [] = refl
ack_all s r (call ∷ calls) =
    ack_all (step s call) r calls ∙
    ap (λ n. fold max n (acknowledged_from (step s call) r calls)) (ack_step s r call) ∙
    sym (fold-append max (s.acknowledged r) (acknowledged_by s r call) (acknowledged_from (step s call) r calls))

pub acknowledged_list : (r : Railway) (calls : List Call) → (fold step new_state calls).acknowledged r ≡ greatest (acknowledged_from new_state r calls)
acknowledged_list r calls = ack_all new_state r calls
