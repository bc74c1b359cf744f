-- A message goes on with the journey of a wagon that it names and that admits it.
use Rattle.hub_tables.proofs.Common.{◌≡◌, ℕ, true, false, cond, not, List, [], ◌∷◌, ◌++◌, Option, Some, None, refl, ap, ◌∙◌, sym, true≢false, ◌&&◌, option_or, has, Message, Body, UnknownWagon, BeyondCalendar, Event, refusal, fits, is_calendar_checked, HubState, named_wagons, event_for, event_body_for, journey_after, is_unknown, known_fault, calendar_fault, wagon_fault, listed, answer_fits, withdraw_fits, answered_known, GoesOn}
use Rattle.hub_tables.proofs.NextEventLemmas.{comes_last}
use Rattle.taf_messages.specs.declared.message.Body.TheVariants as body

nothing_first : {A : Type 0} (first second : Option A) → first ≡ None → second ≡ option_or first second
nothing_first first second h = sym (ap (λ o. option_or o second) h)

-- a wagon is checked by its own events and then by the calendar; one that is offered admits an answer and a withdrawal
pub both_asked : (s : HubState) (m : Message) (w : ℕ) (says : Body) → m.body ≡ says → GoesOn s m → has (named_wagons s.offer m) w ≡ true →
    wagon_fault s m says w ≡ option_or (known_fault s m w) (calendar_fault s m w)
both_asked s m w (body.Plan p) is g h = absurd (true≢false (sym g.continues ∙ rw is refl))
both_asked s m w (body.Answer a) is g h =
    let fit = answer_fits s m.by a (rw is at g.whole) in
    let among : has (a.received ++ a.refused) w ≡ true = rw is at h in
    let offered = g.offered w a.offer a.offerer (fit.0, listed _ _ w fit.1 among) in
    nothing_first (known_fault s m w) (calendar_fault s m w) (rw is (answered_known (s.journey w) m.by (event_body_for s.offer m.by (body.Answer a) w) refl offered))
both_asked s m w (body.Withdraw at n) is g h =
    let stands = withdraw_fits s m.by at n (rw is at g.whole) in
    let offered = g.offered w n m.by (stands, rw is at h) in
    let none : calendar_fault s m w ≡ None = rw is refl in
    sym none ∙ nothing_first (known_fault s m w) (calendar_fault s m w) (rw is (answered_known (s.journey w) m.by (event_body_for s.offer m.by (body.Withdraw at n) w) refl offered))
both_asked s m w _ is g h = refl

-- the check of the calendar, by the wagon's events and its event of the message
calendar_by : (s : HubState) (m : Message) (w : ℕ) (events : List Event) (e : Event) → has (named_wagons s.offer m) w ≡ true → known_fault s m w ≡ None →
    s.journey w ≡ events → event_for s.offer m w ≡ e → calendar_fault s m w ≡ cond (is_calendar_checked e.body && not (fits (events ++ e ∷ []))) (Some BeyondCalendar) None
calendar_by s m w events e h k j is =
    let after : journey_after s m w ≡ events ++ e ∷ [] =
    comes_last s m w h k ∙ ap (λ es. es ++ event_for s.offer m w ∷ []) j ∙ ap (λ x. events ++ x ∷ []) is in
    ap (λ es. cond (is_calendar_checked (event_body_for s.offer m.by m.body w) && not (fits es)) (Some BeyondCalendar) None) after ∙
    ap (λ (x : Event). cond (is_calendar_checked x.body && not (fits (events ++ e ∷ []))) (Some BeyondCalendar) None) is

-- what is asked where the first check is passed
asked_after : {A : Type 0} (first : Option A) (a b : Option A) → (first ≡ None → a ≡ b) → option_or first a ≡ option_or first b
asked_after None a b h = h refl
asked_after (Some x) a b h = refl

-- both checks of a wagon that is known, by its events and its event of the message
pub either_by : (s : HubState) (m : Message) (w : ℕ) (events : List Event) (e : Event) → has (named_wagons s.offer m) w ≡ true → is_unknown (s.journey w) ≡ false →
    s.journey w ≡ events → event_for s.offer m w ≡ e →
    option_or (known_fault s m w) (calendar_fault s m w) ≡ option_or (refusal events e.by e.body) (cond (is_calendar_checked e.body && not (fits (events ++ e ∷ []))) (Some BeyondCalendar) None)
either_by s m w events e h u j is =
    let known : known_fault s m w ≡ refusal events e.by e.body =
    ap (λ b. cond b (Some UnknownWagon) (refusal (s.journey w) m.by (event_body_for s.offer m.by m.body w))) u ∙
    ap (λ es. refusal es m.by (event_body_for s.offer m.by m.body w)) j ∙ ap (λ (x : Event). refusal events x.by x.body) is in
    ap (λ o. option_or o (calendar_fault s m w)) known ∙
    asked_after (refusal events e.by e.body) _ _ (λ r. calendar_by s m w events e h (known ∙ r) j is)
