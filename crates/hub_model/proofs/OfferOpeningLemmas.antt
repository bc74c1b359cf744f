-- An offer is open where it was accepted, and nothing accepted answers or withdraws it.
use Rattle.hub_model.proofs.Common.{◌≡◌, ℕ, Bool, true, false, cond, not, List, [], ◌∷◌, ◌++◌, Option, Some, None, refl, ap, ◌∙◌, sym, subst, inl, inr, append_assoc, append-nil, ◌&&◌, ◌||◌, is_some, is_none, unwrap_or, fold, and_parts, or_cases, or_left, false≢true, true≢false, list_any-append, Railway, Call, Send, Ask, AskUnit, Deviation, Fetch, Ack, Reply, Acknowledged, Message, Body, same_name, HubState, FirstSend, new_state, fault, whole_fault, reply_to, verdict, after_call, opening_given, step, accepts, accepted_message, accepted_from, makes_offer, closes_offer, is_offer_made, is_offer_closed, is_open_in}
use Rattle.taf_messages.specs.declared.message.Body.TheVariants as body
use Rattle.hub_model.proofs.NamedWagonLemmas.{from_same_name}
use Rattle.hub_model.proofs.NoFaultLemmas.{no_whole_fault, answer_fits, withdraw_fits}
use Rattle.hub_model.proofs.StepLemmas.{step-is_open, step-first_send}

-- what the accepted messages say of the offer of a name
record IsOpening (s : HubState) (messages : List Message) (by : Railway) (n : ℕ) : Type 0 where
  made : is_offer_made messages by n ≡ true → is_some (s.first_send by n) ≡ true
  settled : is_offer_closed messages by n ≡ true → is_offer_made messages by n ≡ true
  says : s.is_open by n ≡ is_open_in messages by n

abbrev Openings : HubState → List Message → Type 0
Openings s messages = (by : Railway) (n : ℕ) → IsOpening s messages by n

-- a message opens the offer that it makes, and closes the one that it settles
opening_by : (m : Message) (says : Body) (by : Railway) (n : ℕ) → opening_given m says by n ≡ cond (makes_offer by n m says) (Some true) (cond (closes_offer by n m says) (Some false) None)
opening_by m (body.Offer o) by n = refl
opening_by m (body.Answer a) by n = refl
opening_by m (body.Withdraw at k) by n = refl
opening_by m (body.Plan p) by n = refl
opening_by m (body.Movement v) by n = refl
opening_by m (body.EtiAsk w) by n = refl
opening_by m (body.LegTime w leg minutes) by n = refl
opening_by m (body.Reroute w route) by n = refl

-- and it doesn't settle the one that it makes
not_both : (m : Message) (says : Body) (by : Railway) (n : ℕ) → makes_offer by n m says ≡ true → closes_offer by n m says ≡ false
not_both m (body.Offer o) by n h = refl
not_both m _ by n h = absurd (false≢true h)

-- an offer is made by its own name
made_name : (m : Message) (says : Body) (by : Railway) (n : ℕ) → makes_offer by n m says ≡ true → same_name m.by m.no by n ≡ true
made_name m (body.Offer o) by n h = h
made_name m _ by n h = absurd (false≢true h)

at_name : (s : HubState) (by also : Railway) (n k : ℕ) → same_name by n also k ≡ true → s.is_open by n ≡ s.is_open also k
at_name s by also n k h = let e = from_same_name by also n k h in ap (λ r. s.is_open r n) e.0 ∙ ap (λ i. s.is_open also i) e.1

-- an accepted message settles an open offer
settled_open : (s : HubState) (m : Message) (says : Body) (by : Railway) (n : ℕ) → whole_fault s m.by says ≡ None → closes_offer by n m says ≡ true → s.is_open by n ≡ true
settled_open s m (body.Answer a) by n f h = sym (at_name s a.offerer by a.offer n h) ∙ (answer_fits s m.by a f).0
settled_open s m (body.Withdraw at k) by n f h = sym (at_name s m.by by k n h) ∙ withdraw_fits s m.by at k f
settled_open s m _ by n f h = absurd (false≢true h)

-- the test of an open offer after one more message
opened : (mk st was made settled : Bool) → was ≡ (made && not settled) → (settled ≡ true → made ≡ true) → (mk ≡ true → made ≡ false) → (mk ≡ true → st ≡ false) →
    unwrap_or (cond mk (Some true) (cond st (Some false) None)) was ≡ ((made || (mk || false)) && not (settled || (st || false)))
opened true true was made settled w s d e = absurd (true≢false (e refl))
opened true false was true settled w s d e = absurd (true≢false (d refl))
opened true false was false true w s d e = absurd (false≢true (s refl))
opened true false was false false w s d e = refl
opened false true was true true w s d e = refl
opened false true was true false w s d e = refl
opened false true was false settled w s d e = refl
opened false false was true true w s d e = w
opened false false was true false w s d e = w
opened false false was false settled w s d e = w

pub is_some_either : {A : Type 0} (b : Bool) (x : A) (before : Option A) → is_some before ≡ true → is_some (cond b (Some x) before) ≡ true
is_some_either true x before h = refl
is_some_either false x before h = h

pub not_some : {A : Type 0} (o : Option A) → is_none o ≡ true → is_some o ≡ true → ⊥
not_some None h k = false≢true k
not_some (Some x) h k = false≢true h

pub none_fault : {A : Type 0} (o : Option A) → is_none o ≡ true → o ≡ None
none_fault None h = refl
none_fault (Some x) h = absurd (false≢true h)

not_true : (b : Bool) → (b ≡ true → ⊥) → b ≡ false
not_true true h = absurd (h refl)
not_true false h = refl

or_back : (a b : Bool) → (a || (b || false)) ≡ true → (b ≡ true → ⊥) → a ≡ true
or_back true b h k = refl
or_back false true h k = absurd (k refl)
or_back false false h k = h

module _ (s : HubState) (messages : List Message) (all : Openings s messages) (m : Message) (by : Railway) (n : ℕ) where
  first_stays : is_some (s.first_send by n) ≡ true → is_some ((step s (Send m)).first_send by n) ≡ true
  first_stays h = ap is_some (step-first_send s m by n) ∙ is_some_either (is_none (s.first_send m.by m.no) && same_name m.by m.no by n) _ (s.first_send by n) h

  opening_taken : accepts s m ≡ true → IsOpening (step s (Send m)) (messages ++ m ∷ []) by n
  opening_taken t =
      let here = all by n in
      let parts = and_parts (is_none (s.first_send m.by m.no)) (is_none (fault s m)) t in
      let whole = no_whole_fault s m (none_fault (fault s m) parts.1) in
      let mk = makes_offer by n m m.body in
      let st = closes_offer by n m m.body in
      let made = is_offer_made messages by n in
      let settled = is_offer_closed messages by n in
      let more_made : is_offer_made (messages ++ m ∷ []) by n ≡ (made || (mk || false)) = list_any-append (λ k. makes_offer by n k k.body) messages (m ∷ []) in
      let more_settled : is_offer_closed (messages ++ m ∷ []) by n ≡ (settled || (st || false)) = list_any-append (λ k. closes_offer by n k k.body) messages (m ∷ []) in
      let fresh : mk ≡ true → made ≡ false = λ h. not_true made (λ k.
      let e = from_same_name m.by by m.no n (made_name m m.body by n h) in
      not_some (s.first_send m.by m.no) parts.0 (ap (λ r. is_some (s.first_send r m.no)) e.0 ∙ ap (λ i. is_some (s.first_send by i)) e.1 ∙ here.made k)) in
      record {
        made = λ h. elim (or_cases made (mk || false) (sym more_made ∙ h)) [
          | inl e ↦ first_stays (here.made e)
          | inr e ↦
              (let name = made_name m m.body by n (or_back mk false e (λ k. false≢true k)) in
              let first : FirstSend = record { message = m; reply = verdict m.no (fault s m) } in
              ap is_some (step-first_send s m by n) ∙ ap (λ b. is_some (cond b (Some first) (s.first_send by n))) (ap (λ b. b && same_name m.by m.no by n) parts.0 ∙ name))
        ];
        settled = λ h. more_made ∙ (elim (or_cases settled (st || false) (sym more_settled ∙ h)) [
          | inl e ↦ or_left made (mk || false) (here.settled e)
          | inr e ↦
              or_left made (mk || false)
              ((and_parts made (not settled) (sym here.says ∙ settled_open s m m.body by n whole (or_back st false e (λ k. false≢true k)))).0)
        ]);
        says =
            step-is_open s m by n ∙ ap (λ b. cond b (unwrap_or (opening_given m m.body by n) (s.is_open by n)) (s.is_open by n)) t ∙
            ap (λ o. unwrap_or o (s.is_open by n)) (opening_by m m.body by n) ∙
            opened mk st (s.is_open by n) made settled here.says here.settled fresh (not_both m m.body by n) ∙
            ap (λ b. b && not (settled || (st || false))) (sym more_made) ∙ ap (λ b. is_offer_made (messages ++ m ∷ []) by n && not b) (sym more_settled);
      }

  opening_left : accepts s m ≡ false → IsOpening (step s (Send m)) messages by n
  opening_left t =
      let here = all by n in
      record {
        made = λ h. first_stays (here.made h);
        settled = here.settled;
        says = step-is_open s m by n ∙ ap (λ b. cond b (unwrap_or (opening_given m m.body by n) (s.is_open by n)) (s.is_open by n)) t ∙ here.says;
      }

opening_send : (s : HubState) (messages : List Message) → Openings s messages → (m : Message) (b : Bool) → accepts s m ≡ b → Openings (step s (Send m)) (messages ++ cond b (m ∷ []) [])
opening_send s messages all m true t by n = opening_taken s messages all m by n t
opening_send s messages all m false t by n = subst (λ ms. IsOpening (step s (Send m)) ms by n) (sym (append-nil messages)) (opening_left s messages all m by n t)

opening_acked : (s : HubState) (messages : List Message) → Openings s messages → (by : Railway) (k : ℕ) (reply : Reply) → Openings (after_call s (Ack by k) reply) messages
opening_acked s messages all r k (Acknowledged i) by n = let here = all by n in record { made = here.made; settled = here.settled; says = here.says }
opening_acked s messages all r k _ by n = all by n

same_list : (s : HubState) (messages : List Message) → Openings s messages → Openings s (messages ++ [])
same_list s messages all = subst (Openings s) (sym (append-nil messages)) all

opening_step : (s : HubState) (messages : List Message) → Openings s messages → (call : Call) → Openings (step s call) (messages ++ accepted_message s call)
opening_step s messages all (Send m) = opening_send s messages all m (accepts s m) refl
opening_step s messages all (Ack by k) = same_list (step s (Ack by k)) messages (opening_acked s messages all by k (reply_to s (Ack by k)))
opening_step s messages all (Ask by w) = same_list s messages all
opening_step s messages all (AskUnit by u) = same_list s messages all
opening_step s messages all (Deviation by c) = same_list s messages all
opening_step s messages all (Fetch by limit) = same_list s messages all

opening_all : (s : HubState) (messages : List Message) → Openings s messages → (calls : List Call) → Openings (fold step s calls) (messages ++ accepted_from s calls)
opening_all s messages all [] = same_list s messages all
opening_all s messages all (call ∷ calls) =
    subst (Openings (fold step (step s call) calls)) (append_assoc messages (accepted_message s call) (accepted_from (step s call) calls))
    (opening_all (step s call) (messages ++ accepted_message s call) (opening_step s messages all call) calls)

pub is_open_list : (by : Railway) (n : ℕ) (calls : List Call) → (fold step new_state calls).is_open by n ≡ is_open_in (accepted_from new_state calls) by n
is_open_list by n calls =
    let start : Openings new_state [] = λ r k. record { made = λ h. absurd (false≢true h); settled = λ h. absurd (false≢true h); says = refl } in
    let here = opening_all new_state [] start calls by n in
    here.says
