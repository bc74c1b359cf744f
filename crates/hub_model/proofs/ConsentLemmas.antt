-- Responsibility for a wagon passes by messages of the railways that give and take it.
use Rattle.hub_model.proofs.Common.{◌≡◌, ◌⊎◌, ◌&&◌, Movement, IsHandedOver, cond_some, eqb-true, MovementKind, Departure, Moved, Answered, is_departure, movement_checks, journey_state, refusal, stage, runner_of, place_of, ℕ, Bool, true, false, cond, List, [], ◌∷◌, ◌++◌, Some, None, refl, ap, ◌∙◌, sym, subst, inl, inr, eqb, ◌||◌, is_none, option_and_then, false≢true, not-false, cases_Bool, cond_both, and_parts, and_from, none-some, same_Some, Railway, has, Call, Send, Ask, AskUnit, Deviation, Fetch, Ack, WagonBusy, Message, TrainAnswer, Body, Event, is_delivered, is_delivery, is_plan, is_reception, new_responsible, responsible, passed, asked_by, wagons_of, moment_in, HubState, Offers, new_state, named_wagons, wagons_in, event_for, event_body_for, with_event, journey_after, fault, whole_checks, whole_fault, wagon_fault, known_fault, is_busy, reply_to, answer, step, state_of, state_after, accepts, receiver_in, IsAcceptedSend, delivers, ReceivesFrom, IsByConsent, CallsByConsent, EntriesByConsent}
use Rattle.taf_messages.specs.declared.message.Body.TheVariants as body
use Rattle.taf_messages.specs.declared.record.Stage.TheVariants as stage_is
use Rattle.hub_model.proofs.NoFaultLemmas.{msg, no_known_fault, no_whole_fault, no_named_fault, goes_on, known_allowed, planned_anew, listed, answer_fits}
use Rattle.hub_model.proofs.SoundnessLemmas.{IsSound, NoPlan, all_known, plan_or_not, sound_accepted, sound_nothing}
use Rattle.hub_model.proofs.JourneyLengthLemmas.{IsTrackState, kept_from, kept_calls, each_any}
use Rattle.hub_model.proofs.StepLemmas.{state_after-push, state_of-push, step-journey}
use Rattle.hub_model.proofs.OfferOpeningLemmas.{none_fault}
use Rattle.hub_model.proofs.JourneyLemmas.{acks_journey}
use Rattle.hub_model.proofs.ReceiverLemmas.{share_taker}
use Rattle.hub_model.proofs.ResponsibleEventLemmas.{departed_now, received_now, released_is, IsConsistent, consistent-push, consistent_anew, consistent_nothing, none_anew, none_delivered, taker_is, event_becomes, event_stops, text_is}
use Rattle.hub_model.proofs.DependencyLemmas.{has_first, has-left}

busy_none : (b : Bool) → cond b (Some WagonBusy) None ≡ None → b ≡ false
busy_none true h = absurd (none-some WagonBusy (sym h))
busy_none false h = refl

-- a plan without a fault names no wagon that is busy
not_busy : (s : HubState) (m : Message) (w : ℕ) (says : Body) → wagon_fault s m says w ≡ None → is_plan (event_body_for s.offer m.by says w) ≡ true → is_busy (s.journey w) ≡ false
not_busy s m w (body.Plan p) f h = busy_none (is_busy (s.journey w)) f
not_busy s m w (body.Movement v) f h = absurd (false≢true h)
not_busy s m w (body.EtiAsk v) f h = absurd (false≢true h)
not_busy s m w (body.LegTime v leg minutes) f h = absurd (false≢true h)
not_busy s m w (body.Offer o) f h = absurd (false≢true h)
not_busy s m w (body.Answer a) f h = absurd (false≢true h)
not_busy s m w (body.Withdraw at n) f h = absurd (false≢true h)
not_busy s m w (body.Reroute v route) f h = absurd (false≢true h)

-- and nobody answers for a wagon that is not busy
none_idle : (events : List Event) → is_busy events ≡ false → responsible events ≡ None
none_idle [] h = refl
none_idle (e ∷ events) h = none_delivered (e ∷ events) (not-false (is_delivered (e ∷ events)) h)

-- what holds of all wagons and offers
pub record AreConsistent (s : HubState) : Type 0 where
  pub sound : IsSound s
  pub each : (w : ℕ) → IsConsistent (s.journey w)

-- the events of a wagon that a message without a fault names: with its event at the end, or the plan alone
module _ (s : HubState) (all : AreConsistent s) (m : Message) (f : fault s m ≡ None) (w : ℕ) (n : has (named_wagons s.offer m) w ≡ true) where
  known : NoPlan m.body → known_fault s m w ≡ None
  known p = all_known s all.sound m.by m.no m.body w p f n

  next : NoPlan m.body → with_event (s.journey w) (event_for s.offer m w) ≡ s.journey w ++ event_for s.offer m w ∷ []
  next p = goes_on (s.journey w) (event_for s.offer m w) (known p)

  anew : is_plan (event_body_for s.offer m.by m.body w) ≡ true → with_event (s.journey w) (event_for s.offer m w) ≡ event_for s.offer m w ∷ []
  anew p = planned_anew (s.journey w) (event_for s.offer m w) p

  consistent_named : IsConsistent (with_event (s.journey w) (event_for s.offer m w))
  consistent_named = elim (plan_or_not s.offer m.by m.body w) [
    | inl p ↦ subst IsConsistent (sym (anew p)) (consistent_anew m.by m.no (moment_in m.body) (event_body_for s.offer m.by m.body w) p)
    | inr p ↦
        subst IsConsistent (sym (next p))
        (consistent-push (s.journey w) (event_for s.offer m w) (known_allowed (s.journey w) m.by (event_body_for s.offer m.by m.body w) (known p)) (all.each w))
  ]

  -- whoever becomes responsible takes the wagon over
  named_becomes : (r : Railway) → responsible (with_event (s.journey w) (event_for s.offer m w)) ≡ Some r → (responsible (s.journey w) ≡ Some r → ⊥) → new_responsible m.by (event_body_for s.offer m.by m.body w) ≡ Some r
  named_becomes r h k = elim (plan_or_not s.offer m.by m.body w) [
    | inl p ↦ absurd (none-some r (sym (ap responsible (anew p) ∙ none_anew m.by m.no (moment_in m.body) (event_body_for s.offer m.by m.body w) p) ∙ h))
    | inr p ↦ event_becomes (s.journey w) (event_for s.offer m w) r (sym (ap responsible (next p)) ∙ h) k
  ]

  -- whoever stops being responsible delivers it, or it is received
  named_stops : (r : Railway) → responsible (s.journey w) ≡ Some r → (responsible (with_event (s.journey w) (event_for s.offer m w)) ≡ Some r → ⊥) →
      ((m.by ≡ r) × (is_delivery (event_body_for s.offer m.by m.body w) ≡ true)) ⊎ (is_reception (event_body_for s.offer m.by m.body w) ≡ true)
  named_stops r h k = elim (plan_or_not s.offer m.by m.body w) [
    | inl p ↦ absurd (none-some r (sym (none_idle (s.journey w) (not_busy s m w m.body (no_named_fault s m w f n) p)) ∙ h))
    | inr p ↦
        event_stops (s.journey w) (event_for s.offer m w) r (known_allowed (s.journey w) m.by (event_body_for s.offer m.by m.body w) (known p)) (all.each w) h
        (λ e. k (ap responsible (next p) ∙ e))
  ]

-- an accepted message keeps it so
consistent_after : (s : HubState) → AreConsistent s → (m : Message) → fault s m ≡ None → (w : ℕ) → IsConsistent (journey_after s m w)
consistent_after s all m f w =
    cond_both (has (named_wagons s.offer m) w) (with_event (s.journey w) (event_for s.offer m w)) (s.journey w) IsConsistent
    (λ n. consistent_named s all m f w n)
    (λ n. all.each w)

pub kept_consistent : IsTrackState (λ m. Unit {0}) AreConsistent
kept_consistent = record {
  accepts = λ s m d f all. record { sound = sound_accepted s all.sound m f; each = λ w. consistent_after s all m f w };
  notes = λ s m reply all. record { sound = record { offered = all.sound.offered; delivered = all.sound.delivered }; each = all.each };
  acks = λ s by n all. record { sound = record { offered = all.sound.offered; delivered = all.sound.delivered }; each = all.each };
}

pub all_nothing : AreConsistent new_state
all_nothing = record { sound = sound_nothing; each = λ w. consistent_nothing }

-- the event of a message that hands the wagon to a railway
receiver_named : (s : HubState) (m : Message) (w : ℕ) (r : Railway) → has (named_wagons s.offer m) w ≡ true → new_responsible m.by (event_body_for s.offer m.by m.body w) ≡ Some r → receiver_in m.by m.body w ≡ Some r
receiver_named s m w r n h =
    sym (share_taker s.offer m.by m.no m.body w) ∙
    ap (λ b. option_and_then (λ (e : Event). new_responsible e.by e.body) (cond b (Some (event_for s.offer m w)) None)) n ∙
    h

or_false : (b : Bool) → (b || false) ≡ true → b ≡ true
or_false true h = refl
or_false false h = h

-- an event that delivers the wagon is of its delivery notice
delivers_named : (offers : Offers) (by : Railway) (says : Body) (w : ℕ) → has (wagons_in offers by says) w ≡ true → is_delivery (event_body_for offers by says w) ≡ true → delivers says w ≡ true
delivers_named offers by (body.Movement m) w n h = and_from _ _ (or_false (eqb m.wagon w) n) h
delivers_named offers by (body.Plan p) w n h = absurd (false≢true h)
delivers_named offers by (body.EtiAsk v) w n h = absurd (false≢true h)
delivers_named offers by (body.LegTime v leg minutes) w n h = absurd (false≢true h)
delivers_named offers by (body.Offer o) w n h = absurd (false≢true h)
delivers_named offers by (body.Answer a) w n h = absurd (false≢true h)
delivers_named offers by (body.Withdraw at k) w n h = absurd (false≢true h)
delivers_named offers by (body.Reroute v route) w n h = absurd (false≢true h)

-- an answer without a fault is of the railway that the offer asked
pub asked_answers : (s : HubState) (by : Railway) (a : TrainAnswer) → whole_fault s by (body.Answer a) ≡ None → asked_by (s.offer a.offerer a.offer) ≡ Some by
asked_answers s by a h = let checks = passed (whole_checks s by (body.Answer a)) h in text_is (asked_by (s.offer a.offerer a.offer)) by (not-false _ checks.1.0)

-- and where it received a wagon, that is in an open offer of the responsible railway
answered_over : (s : HubState) (all : AreConsistent s) (by : Railway) (number : ℕ) (a : TrainAnswer) (w : ℕ) → fault s (msg by number (body.Answer a)) ≡ None → has a.received w ≡ true →
    IsHandedOver s by (body.Answer a) w
answered_over s all by number a w f received =
    let whole = no_whole_fault s (msg by number (body.Answer a)) f in
    let fits = answer_fits s by a whole in
    let inside = listed (wagons_of (s.offer a.offerer a.offer)) (a.received ++ a.refused) w fits.1 (has-left a.received a.refused w received) in
    ((all.each w).offerer (a.offerer, a.offer) (all.sound.offered a.offerer a.offer w fits.0 inside), (refl, received, asked_answers s by a whole, (fits.0, inside)))

answered_from : (s : HubState) (all : AreConsistent s) (by : Railway) (number : ℕ) (a : TrainAnswer) (w : ℕ) (r : Railway) → fault s (msg by number (body.Answer a)) ≡ None →
    has a.received w ≡ true → responsible (s.journey w) ≡ Some r → ReceivesFrom s r by (body.Answer a) w
answered_from s all by number a w r f received h =
    let over = answered_over s all by number a w f received in
    subst (λ q. ReceivesFrom s q by (body.Answer a) w) (same_Some a.offerer r (sym over.0 ∙ h)) over.1

received_from : (s : HubState) (all : AreConsistent s) (by : Railway) (number : ℕ) (says : Body) (w : ℕ) (r : Railway) → fault s (msg by number says) ≡ None →
    is_reception (event_body_for s.offer by says w) ≡ true → responsible (s.journey w) ≡ Some r → ReceivesFrom s r by says w
received_from s all by number (body.Answer a) w r f k h = answered_from s all by number a w r f k h
received_from s all by number (body.Plan p) w r f k h = absurd (false≢true k)
received_from s all by number (body.Movement m) w r f k h = absurd (false≢true k)
received_from s all by number (body.EtiAsk v) w r f k h = absurd (false≢true k)
received_from s all by number (body.LegTime v leg minutes) w r f k h = absurd (false≢true k)
received_from s all by number (body.Offer o) w r f k h = absurd (false≢true k)
received_from s all by number (body.Withdraw at n) w r f k h = absurd (false≢true k)
received_from s all by number (body.Reroute v route) w r f k h = absurd (false≢true k)

departure_is : (what : MovementKind) → is_departure (Moved what) ≡ true → what ≡ Departure
departure_is Departure h = refl
departure_is _ h = absurd (false≢true h)

-- a message that hands the wagon to a railway is that railway's own
receiver_is : (by : Railway) (says : Body) (w : ℕ) (r : Railway) → receiver_in by says w ≡ Some r → by ≡ r
receiver_is by (body.Movement v) w r h = (cond_some (eqb v.wagon w && is_departure (Moved v.what)) by r h).1
receiver_is by (body.Answer a) w r h = (cond_some (has a.received w) by r h).1
receiver_is by _ w r h = absurd (none-some r h)

-- it hands the wagon over, and from then on the railway answers for the wagon
module _ (s : HubState) (all : AreConsistent s) (by : Railway) (number w : ℕ) (r : Railway) where
  -- the wagon was released to a railway that departs with it
  departed_over : (v : Movement) → fault s (msg by number (body.Movement v)) ≡ None → receiver_in by (body.Movement v) w ≡ Some r → IsHandedOver s by (body.Movement v) w
  departed_over v f h =
      let parts = and_parts (eqb v.wagon w) (is_departure (Moved v.what)) ((cond_some (eqb v.wagon w && is_departure (Moved v.what)) by r h).0) in
      let same = eqb-true v.wagon w parts.0 in
      let departs = departure_is v.what parts.1 in
      let known = known_allowed (s.journey v.wagon) by (Moved v.what) (no_known_fault s by number (body.Movement v) v.wagon tt f (has_first v.wagon [])) in
      let p = passed (movement_checks (journey_state (s.journey v.wagon)) by Departure) (subst (λ what. refusal (s.journey v.wagon) by (Moved what) ≡ None) departs known) in
      let released = released_is (stage (s.journey v.wagon)) (not-false _ p.0) in
      let runs = text_is (runner_of (s.journey v.wagon) 0) by (not-false _ p.1.0) in
      (same, departs, subst (λ x. stage (s.journey x) ≡ Some stage_is.Released) same released, subst (λ x. runner_of (s.journey x) 0 ≡ Some by) same runs)

  handed_over : (says : Body) → fault s (msg by number says) ≡ None → receiver_in by says w ≡ Some r → IsHandedOver s by says w
  handed_over (body.Movement v) f h = departed_over v f h
  handed_over (body.Answer a) f h = answered_over s all by number a w f ((cond_some (has a.received w) by r h).0)
  handed_over (body.Plan p) f h = absurd (none-some r h)
  handed_over (body.EtiAsk v) f h = absurd (none-some r h)
  handed_over (body.LegTime v leg minutes) f h = absurd (none-some r h)
  handed_over (body.Offer o) f h = absurd (none-some r h)
  handed_over (body.Withdraw at k) f h = absurd (none-some r h)
  handed_over (body.Reroute v route) f h = absurd (none-some r h)

  goes_on_named : (says : Body) → NoPlan says → fault s (msg by number says) ≡ None → has (named_wagons s.offer (msg by number says)) w ≡ true →
      journey_after s (msg by number says) w ≡ s.journey w ++ event_for s.offer (msg by number says) w ∷ []
  goes_on_named says g f n =
      let m = msg by number says in
      ap (λ b. cond b (with_event (s.journey w) (event_for s.offer m w)) (s.journey w)) n ∙ goes_on (s.journey w) (event_for s.offer m w) (all_known s all.sound by number says w g f n)

  pub passes_to : (says : Body) → fault s (msg by number says) ≡ None → receiver_in by says w ≡ Some r → responsible (journey_after s (msg by number says) w) ≡ Some by
  passes_to (body.Movement v) f h =
      let over = departed_over v f h in
      let named : has (v.wagon ∷ []) w ≡ true = subst (λ x. has (v.wagon ∷ []) x ≡ true) over.0 (has_first v.wagon []) in
      ap responsible (goes_on_named (body.Movement v) tt f named) ∙
      ap (λ what. responsible (s.journey w ++ record { by = by; no = number; at = Some v.at; body = Moved what } ∷ [])) over.1 ∙
      departed_now (s.journey w) by number (Some v.at) over.2 (all.sound.delivered w)
  passes_to (body.Answer a) f h =
      let received = (cond_some (has a.received w) by r h).0 in
      let over = answered_over s all by number a w f received in
      let place = place_of (s.offer a.offerer a.offer) in
      ap responsible (goes_on_named (body.Answer a) tt f (has-left a.received a.refused w received)) ∙
      ap (λ b. responsible (s.journey w ++ record { by = by; no = number; at = Some a.at; body = Answered place b } ∷ [])) received ∙
      received_now (s.journey w) by a.offerer number (Some a.at) place over.0
  passes_to (body.Plan p) f h = absurd (none-some r h)
  passes_to (body.EtiAsk v) f h = absurd (none-some r h)
  passes_to (body.LegTime v leg minutes) f h = absurd (none-some r h)
  passes_to (body.Offer o) f h = absurd (none-some r h)
  passes_to (body.Withdraw at k) f h = absurd (none-some r h)
  passes_to (body.Reroute v route) f h = absurd (none-some r h)

-- what an accepted message changes
module _ (s : HubState) (all : AreConsistent s) (m : Message) (f : fault s m ≡ None) (w : ℕ) (r : Railway) where
  message_becomes : responsible (journey_after s m w) ≡ Some r → (responsible (s.journey w) ≡ Some r → ⊥) → (m.by ≡ r) × IsHandedOver s r m.body w
  message_becomes h k = elim (cases_Bool (has (named_wagons s.offer m) w)) [
    | inl n ↦
        (let here : responsible (with_event (s.journey w) (event_for s.offer m w)) ≡ Some r =
        sym (ap (λ b. responsible (cond b (with_event (s.journey w) (event_for s.offer m w)) (s.journey w))) n) ∙ h in
        let takes_over = named_becomes s all m f w n r here k in
        let own = taker_is m.by (event_body_for s.offer m.by m.body w) r takes_over in
        (own, subst (λ q. IsHandedOver s q m.body w) own (handed_over s all m.by m.no w r m.body f (receiver_named s m w r n takes_over))))
    | inr n ↦ absurd (k (sym (ap (λ b. responsible (cond b (with_event (s.journey w) (event_for s.offer m w)) (s.journey w))) n) ∙ h))
  ]

  message_stops : responsible (s.journey w) ≡ Some r → (responsible (journey_after s m w) ≡ Some r → ⊥) → ((m.by ≡ r) × (delivers m.body w ≡ true)) ⊎ ReceivesFrom s r m.by m.body w
  message_stops h k = elim (cases_Bool (has (named_wagons s.offer m) w)) [
    | inl n ↦
        (elim (named_stops s all m f w n r h (λ e. k (ap (λ b. responsible (cond b (with_event (s.journey w) (event_for s.offer m w)) (s.journey w))) n ∙ e))) [
          | inl d ↦ inl (d.0, delivers_named s.offer m.by m.body w n d.1)
          | inr e ↦ inr (received_from s all m.by m.no m.body w r f e h)
        ])
    | inr n ↦ absurd (k (ap (λ b. responsible (cond b (with_event (s.journey w) (event_for s.offer m w)) (s.journey w))) n ∙ h))
  ]

-- a call that leaves the wagon's journey changes no responsibility
unchanged : (s t : HubState) (call : Call) (w : ℕ) (r : Railway) → t.journey w ≡ s.journey w → ((m : Message) → IsAcceptedSend s call m → ⊥) → IsByConsent s t call w r
unchanged s t call w r e none = record {
  becomes = λ h k. absurd (k (ap responsible (sym e) ∙ h));
  stops = λ h k. absurd (k (ap responsible e ∙ h));
  passes = λ m sent h. absurd (none m sent);
}

same_message : (m n : Message) → Send m ≡ Send n → m ≡ n
same_message m n h = cc

sent_by_consent : (s : HubState) → AreConsistent s → (m : Message) (w : ℕ) (r : Railway) → accepts s m ≡ true → IsByConsent s (step s (Send m)) (Send m) w r
sent_by_consent s all m w r t =
    let parts = and_parts (is_none (s.first_send m.by m.no)) (is_none (fault s m)) t in
    let f = none_fault (fault s m) parts.1 in
    let after : (step s (Send m)).journey w ≡ journey_after s m w = step-journey s m w ∙ ap (λ b. cond b (journey_after s m w) (s.journey w)) t in
    let accepts : IsAcceptedSend s (Send m) m = record { sent = refl; accepted = t } in
    record {
      becomes = λ h k. let own = message_becomes s all m f w r (sym (ap responsible after) ∙ h) k in (m, accepts, own.0, own.1);
      stops = λ h k. (m, accepts, message_stops s all m f w r h (λ e. k (ap responsible after ∙ e)));
      passes = λ n sent h.
          let own : receiver_in m.by m.body w ≡ Some r = subst (λ k. receiver_in k.by k.body w ≡ Some r) (sym (same_message m n sent.sent)) h in
          ap responsible after ∙ passes_to s all m.by m.no w r m.body f own ∙ ap Some (receiver_is m.by m.body w r own);
    }

-- a call that is no send
no_send : (s : HubState) (call : Call) → ((m : Message) → call ≡ Send m → ⊥) → (m : Message) → IsAcceptedSend s call m → ⊥
no_send s call other m sent = other m sent.sent

by_consent : (s : HubState) → AreConsistent s → (call : Call) (w : ℕ) (r : Railway) → IsByConsent s (step s call) call w r
by_consent s all (Send m) w r = elim (cases_Bool (accepts s m)) [
  | inl t ↦ sent_by_consent s all m w r t
  | inr t ↦ unchanged s (step s (Send m)) (Send m) w r (step-journey s m w ∙ ap (λ b. cond b (journey_after s m w) (s.journey w)) t)
      (λ n sent. false≢true (sym t ∙ ap (accepts s) (same_message m n sent.sent) ∙ sent.accepted))
]
by_consent s all (Ack by k) w r = unchanged s (step s (Ack by k)) (Ack by k) w r (acks_journey s w by k (reply_to s (Ack by k))) (no_send s (Ack by k) (λ m h. cc))
by_consent s all (Ask by v) w r = unchanged s s (Ask by v) w r refl (no_send s (Ask by v) (λ m h. cc))
by_consent s all (AskUnit by u) w r = unchanged s s (AskUnit by u) w r refl (no_send s (AskUnit by u) (λ m h. cc))
by_consent s all (Deviation by c) w r = unchanged s s (Deviation by c) w r refl (no_send s (Deviation by c) (λ m h. cc))
by_consent s all (Fetch by limit) w r = unchanged s s (Fetch by limit) w r refl (no_send s (Fetch by limit) (λ m h. cc))

pub calls_by_consent : CallsByConsent
calls_by_consent calls call w r =
    subst (λ t. IsByConsent (state_after calls) t call w r) (sym (state_after-push calls call))
    (by_consent (state_after calls) (kept_calls AreConsistent kept_consistent new_state calls all_nothing) call w r)

pub entries_by_consent : EntriesByConsent
entries_by_consent history call w r legal =
    subst (λ t. IsByConsent (state_of history) t call w r) (sym (state_of-push history (record { call = call; reply = answer history call })))
    (by_consent (state_of history) (kept_from (λ m. Unit {0}) AreConsistent kept_consistent new_state history legal (each_any history) all_nothing) call w r)
