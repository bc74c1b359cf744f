-- An event by the offers known before its message is the event by the offers of the whole list.
use Rattle.hub_model.proofs.Common.{◌≡◌, ℕ, Bool, true, false, cond, List, [], ◌∷◌, ◌++◌, Option, Some, None, refl, ap, ◌∙◌, sym, inl, inr, ◌&&◌, is_some, is_none, filter_map, option_or, fold, cons_option, and_parts, cases_Bool, false≢true, filter_map-append, Railway, has, Call, Send, Ask, AskUnit, Deviation, Fetch, Ack, Reply, Acknowledged, Message, Body, Event, from_last, is_plan, passed, same_name, HubState, FirstSend, Offers, new_state, named_wagons, event_for, fault, whole_checks, reply_to, verdict, after_call, offer_given, step, accepts, accepted_message, accepted_from, offers_in, event_if_named, events_from}
use Rattle.taf_messages.specs.declared.message.Body.TheVariants as body
use Rattle.hub_model.proofs.NamedWagonLemmas.{from_same_name}
use Rattle.hub_model.proofs.NoFaultLemmas.{no_whole_fault, msg}
use Rattle.hub_model.proofs.StepLemmas.{step-offer, step-first_send}
use Rattle.hub_model.proofs.ListLemmas.{offer_list}
use Rattle.hub_model.proofs.OfferOpeningLemmas.{none_fault, not_some, is_some_either}
use Rattle.hub_model.proofs.JourneyLemmas.{shares_after, shares_after-append, same_offers, offers_step, journey_from}

-- whoever made an accepted offer sent it
abbrev AreSent : HubState → Type 0
AreSent s = (by : Railway) (n : ℕ) → is_some (s.offer by n) ≡ true → is_some (s.first_send by n) ≡ true

-- the offers of the first stand in the second
abbrev Stand : Offers → Offers → Type 0
Stand before after = (by : Railway) (n : ℕ) → is_some (before by n) ≡ true → after by n ≡ before by n

known : {A : Type 0} (o : Option A) → is_none o ≡ false → is_some o ≡ true
known None h = absurd (false≢true (sym h))
known (Some x) h = refl

-- a message gives an offer by its own name
given_name : (m : Message) (says : Body) (by : Railway) (n : ℕ) → is_some (offer_given m says by n) ≡ true → same_name m.by m.no by n ≡ true
given_name m (body.Offer o) by n h = elim (cases_Bool (same_name m.by m.no by n)) [
  | inl e ↦ e
  | inr e ↦ absurd (false≢true (rw e at h))
]
given_name m _ by n h = absurd (false≢true h)

kept_or_given : {A : Type 0} (given before : Option A) → (is_some given ≡ true → ⊥) → option_or given before ≡ before
kept_or_given None before h = refl
kept_or_given (Some x) before h = absurd (h refl)

kept_either : {A : Type 0} (b : Bool) (x y : A) → (b ≡ true → x ≡ y) → cond b x y ≡ y
kept_either true x y h = h refl
kept_either false x y h = refl

some_sent : {A B : Type 0} (free fine : Bool) (given before : Option A) (named_wagons : Bool) (x : B) (first : Option B) → (is_some given ≡ true → named_wagons ≡ true) → (is_some before ≡ true → is_some first ≡ true) →
    is_some (cond (free && fine) (option_or given before) before) ≡ true → is_some (cond (free && named_wagons) (Some x) first) ≡ true
some_sent true true (Some g) before named_wagons x first g_named b_sent h = rw (g_named refl) refl
some_sent true true None before named_wagons x first g_named b_sent h = is_some_either named_wagons x first (b_sent h)
some_sent true false given before named_wagons x first g_named b_sent h = is_some_either named_wagons x first (b_sent h)
some_sent false fine given before named_wagons x first g_named b_sent h = b_sent h

module _ (s : HubState) (sent : AreSent s) (m : Message) where
  -- an accepted message gives no offer that was given
  stands_send : Stand s.offer (step s (Send m)).offer
  stands_send by n h =
      step-offer s m by n ∙
      kept_either (accepts s m) (option_or (offer_given m m.body by n) (s.offer by n)) (s.offer by n)
      (λ t. kept_or_given (offer_given m m.body by n) (s.offer by n)
      (λ g.
      let e = from_same_name m.by by m.no n (given_name m m.body by n g) in
      not_some (s.first_send m.by m.no) ((and_parts _ _ t).0) (ap (λ r. is_some (s.first_send r m.no)) e.0 ∙ ap (λ i. is_some (s.first_send by i)) e.1 ∙ sent by n h)))

  -- and it is the first of its name
  sent_send : AreSent (step s (Send m))
  sent_send by n h =
      let send_of_name : FirstSend = record { message = m; reply = verdict m.no (fault s m) } in
      ap is_some (step-first_send s m by n) ∙
      some_sent (is_none (s.first_send m.by m.no)) (is_none (fault s m)) (offer_given m m.body by n) (s.offer by n) (same_name m.by m.no by n) send_of_name (s.first_send by n)
      (given_name m m.body by n) (sent by n) (sym (ap is_some (step-offer s m by n)) ∙ h)

-- what an accepted message says by the offers before it, it says by any later ones
share_later : (s : HubState) (by : Railway) (number : ℕ) (says : Body) (after : Offers) → Stand s.offer after → fault s (msg by number says) ≡ None → (w : ℕ) → event_if_named s.offer (msg by number says) w ≡ event_if_named after (msg by number says) w
share_later s by number (body.Answer a) after st f w =
    let c = passed (whole_checks s by (body.Answer a)) (no_whole_fault s (msg by number (body.Answer a)) f) in
    let e = st a.offerer a.offer (known (s.offer a.offerer a.offer) c.0) in
    rw e refl
share_later s by number (body.Withdraw at k) after st f w =
    let c = passed (whole_checks s by (body.Withdraw at k)) (no_whole_fault s (msg by number (body.Withdraw at k)) f) in
    let e = st by k (known (s.offer by k) c.0) in
    rw e refl
share_later s by number (body.Plan p) after st f w = refl
share_later s by number (body.Movement v) after st f w = refl
share_later s by number (body.EtiAsk v) after st f w = refl
share_later s by number (body.LegTime v leg minutes) after st f w = refl
share_later s by number (body.Offer o) after st f w = refl
share_later s by number (body.Reroute v route) after st f w = refl

acked_offers : (s : HubState) (by : Railway) (k : ℕ) (reply : Reply) → AreSent s → (Stand s.offer (after_call s (Ack by k) reply).offer) × (AreSent (after_call s (Ack by k) reply))
acked_offers s by k (Acknowledged n) sent = (λ r i h. refl, sent)
acked_offers s by k _ sent = (λ r i h. refl, sent)

offers_stand : (s : HubState) → AreSent s → (call : Call) → (Stand s.offer (step s call).offer) × (AreSent (step s call))
offers_stand s sent (Send m) = (stands_send s sent m, sent_send s sent m)
offers_stand s sent (Ack by k) = acked_offers s by k (reply_to s (Ack by k)) sent
offers_stand s sent (Ask by w) = (λ r i h. refl, sent)
offers_stand s sent (AskUnit by u) = (λ r i h. refl, sent)
offers_stand s sent (Deviation by c) = (λ r i h. refl, sent)
offers_stand s sent (Fetch by limit) = (λ r i h. refl, sent)

-- an offer that was given stands through any calls
stands_through : (s : HubState) → AreSent s → (calls : List Call) → Stand s.offer (fold step s calls).offer
stands_through s sent [] by n h = refl
stands_through s sent (call ∷ calls) by n h =
    let one = offers_stand s sent call in
    let same = one.0 by n h in
    stands_through (step s call) one.1 calls by n (ap is_some same ∙ h) ∙ same

-- the event of one message
one_share : (h : Bool) (x : Event) → cond h (x ∷ []) [] ++ [] ≡ cons_option (cond h (Some x) None) []
one_share true x = refl
one_share false x = refl

taken_share : (s : HubState) (before : List Message) (m : Message) (after : Offers) → s.offer ≡ offers_in before → Stand s.offer after → (w : ℕ) (b : Bool) → accepts s m ≡ b →
    shares_after before (cond b (m ∷ []) []) w ≡ filter_map (λ n. event_if_named after n w) (cond b (m ∷ []) [])
taken_share s before m after e st w false t = refl
taken_share s before m after e st w true t =
    one_share (has (named_wagons (offers_in before) m) w) (event_for (offers_in before) m w) ∙
    ap (λ o. cons_option (event_if_named o m w) []) (sym e) ∙
    ap (λ o. cons_option o []) (share_later s m.by m.no m.body after st (none_fault (fault s m) ((and_parts _ _ t).1)) w)

call_share : (s : HubState) (before : List Message) (after : Offers) → s.offer ≡ offers_in before → Stand s.offer after → (w : ℕ) (call : Call) →
    shares_after before (accepted_message s call) w ≡ filter_map (λ n. event_if_named after n w) (accepted_message s call)
call_share s before after e st w (Send m) = taken_share s before m after e st w (accepts s m) refl
call_share s before after e st w (Ack by k) = refl
call_share s before after e st w (Ask by v) = refl
call_share s before after e st w (AskUnit by u) = refl
call_share s before after e st w (Deviation by c) = refl
call_share s before after e st w (Fetch by limit) = refl

shares_later : (s : HubState) (before : List Message) → s.offer ≡ offers_in before → AreSent s → (w : ℕ) (calls : List Call) →
    shares_after before (accepted_from s calls) w ≡ filter_map (λ n. event_if_named (fold step s calls).offer n w) (accepted_from s calls)
shares_later s before e sent w [] = refl
shares_later s before e sent w (call ∷ calls) =
    let after = (fold step (step s call) calls).offer in
    let rest = accepted_from (step s call) calls in
    shares_after-append before (accepted_message s call) rest w ∙
    ap (λ es. es ++ shares_after (before ++ accepted_message s call) rest w) (call_share s before after e (stands_through s sent (call ∷ calls)) w call) ∙
    ap (λ es. filter_map (λ n. event_if_named after n w) (accepted_message s call) ++ es) (shares_later (step s call) (before ++ accepted_message s call) (offers_step s before call e) ((offers_stand s sent call).1) w calls) ∙
    sym (filter_map-append (λ n. event_if_named after n w) (accepted_message s call) rest)

-- the events of the accepted messages, by the offers among them
pub shares_of_all : (w : ℕ) (calls : List Call) → shares_after [] (accepted_from new_state calls) w ≡ events_from (accepted_from new_state calls) w
shares_of_all w calls =
    shares_later new_state [] refl (λ by n h. absurd (false≢true h)) w calls ∙
    ap (λ o. filter_map (λ n. event_if_named o n w) (accepted_from new_state calls))
    (same_offers (fold step new_state calls).offer (offers_in (accepted_from new_state calls)) (λ by n. offer_list by n calls))

pub journey_list : (w : ℕ) (calls : List Call) → (fold step new_state calls).journey w ≡ from_last (λ e. is_plan e.body) (events_from (accepted_from new_state calls) w)
journey_list w calls = journey_from w calls ∙ ap (from_last (λ e. is_plan e.body)) (shares_of_all w calls)
