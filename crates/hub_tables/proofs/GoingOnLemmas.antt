-- Journeys that go on by a message, one after another.
use Rattle.hub_tables.proofs.Common.{or_none_left, ◌≡◌, ℕ, ◌+◌, ◌<◌, ◌≤◌, ◌==◌, ◌||◌, Bool, true, false, if◌then◌else◌, List, [], ◌∷◌, ◌++◌, Option, Some, None, refl, sym, ap, subst, ◌∙◌, true≢false, inl, inr, slice_get, or_cases, eqb-true, numbers, All-head, All-cons, All-nil, All-push, has, all_differ, Message, Body, Event, without_newest, without_newest-push, HubState, named_wagons, event_for, journey_after, with_event, whole_fault, first_fault, fault, Fault, TableEntries, table_state, events_in, continues_journeys, IsStateBefore, Change, continued_in, changed, known_before, IsChange, AreChanges, HasGoneOn, IsTaken, wagon_refusal, Passes, after_each, with_journey, HaveGoneOn, GoesOn, Why, fits, length, take, drop, get_or, take_all, take_more, take-append-drop, at_drop_all, at_drop_more, option_or, option_map}
use Rattle.taf_messages.specs.declared.message.Body.TheVariants as body
use Rattle.hub_tables.proofs.CheckLemmas.{at_wagon, each_fault}
use Rattle.hub_tables.proofs.ContinuationLemmas.{both_asked}
use Rattle.hub_tables.proofs.ChangeLemmas.{changed_more, each_same}
use Rattle.hub_tables.proofs.DifferLemmas.{or_false, has_last, named_apart, differ_first, next_differs}
use Rattle.hub_tables.proofs.NextEventLemmas.{comes_last, has_at}

-- the message comes last in the journey of a wagon that passes its checks
passed_last : (s : HubState) (m : Message) (w : ℕ) → Passes s m w → journey_after s m w ≡ s.journey w ++ event_for s.offer m w ∷ []
passed_last s m w p = comes_last s m w p.is_named (or_none_left _ _ p.admits)

-- an event at the end of one journey is the message in it
module _ (old new : TableEntries) (m : Message) (c : Change) (e : Event) (is : e ≡ event_for (table_state old).offer m c.wagon) (passes : Passes (table_state old) m c.wagon) where
  abbrev s : HubState
  s = table_state old

  on_by : (w : ℕ) (b : Bool) → (c.wagon == w) ≡ b → (if b then s.journey w ++ e ∷ [] else s.journey w) ≡ (if b || false then journey_after s m w else s.journey w)
  on_by w true same =
      subst (λ (v : ℕ). s.journey v ++ e ∷ [] ≡ journey_after s m v) (eqb-true c.wagon w same) (ap (λ x. s.journey c.wagon ++ x ∷ []) is ∙ sym (passed_last s m c.wagon passes))
  on_by w false same = refl

  pub one_on : slice_get s.fleet c.position ≡ Some c.wagon → IsStateBefore (s.journey c.wagon ++ e ∷ []) c.before → table_state new ≡ with_journey s c.wagon (λ events. events ++ e ∷ []) → HaveGoneOn s new m (c.wagon ∷ []) (c ∷ [])
  one_on position before put =
      let last = ap (λ (k : HubState). k.journey c.wagon) put ∙ ap (λ (b : Bool). if b then s.journey c.wagon ++ e ∷ [] else s.journey c.wagon) (numbers.itself c.wagon) in
      let position_is = ap (λ (k : HubState). slice_get k.fleet c.position) put ∙ position in
      let change : IsChange new c = record { position_is = position_is; before_is = subst (λ (es : List Event). IsStateBefore es c.before) (sym last) before } in
      record {
        known = put ∙ (λ i. record s { journey = λ w. on_by w (c.wagon == w) refl i });
        wagons = refl;
        passed = λ w h. subst (Passes s m) (eqb-true c.wagon w (sym (or_false (c.wagon == w)) ∙ h)) passes;
        each = All-cons (IsChange new) c [] change (All-nil (IsChange new));
      }

module _ (s : HubState) (m : Message) where
  -- journeys of others matter to no check of a wagon
  module _ (ws : List ℕ) where
    pub same_refusal : (w : ℕ) → has ws w ≡ false → wagon_refusal (after_each s m ws) m w ≡ wagon_refusal s m w
    same_refusal w h = rw h refl

    pub same_after : (w : ℕ) → has ws w ≡ false → journey_after (after_each s m ws) m w ≡ journey_after s m w
    same_after w h = rw h refl

    pub same_whole : (says : Body) → whole_fault (after_each s m ws) m.by says ≡ whole_fault s m.by says
    same_whole (body.Plan p) = refl
    same_whole (body.Answer a) = refl
    same_whole (body.Withdraw at n) = refl
    same_whole _ = refl

  -- one wagon more
  module _ (t u : TableEntries) (ws : List ℕ) (cs : List Change) (w : ℕ) (c : Change) (on : HaveGoneOn s t m ws cs) (one : HaveGoneOn (table_state t) u m (w ∷ []) (c ∷ [])) (out : has ws w ≡ false) where
    abbrev k : HubState
    k = after_each s m ws

    next : HaveGoneOn k u m (w ∷ []) (c ∷ [])
    next = subst (λ (k : HubState). HaveGoneOn k u m (w ∷ []) (c ∷ [])) on.known one

    joined : (v : ℕ) (a b : Bool) → (a ≡ true → b ≡ false) →
        (if b || false then (let before = if a then journey_after s m v else s.journey v in if has (named_wagons s.offer m) v then with_event before (event_for s.offer m v) else before) else (if a then journey_after s m v else s.journey v)) ≡
        (if a || b then journey_after s m v else s.journey v)
    joined v true true apart = absurd (true≢false (apart refl))
    joined v true false apart = refl
    joined v false true apart = refl
    joined v false false apart = refl

    passed_too : (v : ℕ) → (w == v) ≡ true → Passes s m v
    passed_too v same =
        let there = next.passed v (ap (λ (b : Bool). b || false) same) in
        record { is_named = there.is_named; admits = sym (same_refusal ws v (ap (has ws) (sym (eqb-true w v same)) ∙ out)) ∙ there.admits }

    stays : (v : ℕ) → has (changed cs) v ≡ true → events_in u.wagons v ≡ events_in t.wagons v
    stays v h =
        let other = named_apart ws w v out (sym (ap (λ (us : List ℕ). has us v) on.wagons) ∙ h) in
        ap (λ (k : HubState). k.journey v) one.known ∙ ap (λ (b : Bool). if b || false then journey_after (table_state t) m v else events_in t.wagons v) other

    pub one_more : HaveGoneOn s u m (ws ++ w ∷ []) (cs ++ c ∷ [])
    one_more = record {
      known =
          next.known ∙
          (λ i. record s { journey = λ v. (joined v (has ws v) (w == v) (named_apart ws w v out) ∙ ap (λ (b : Bool). if b then journey_after s m v else s.journey v) (sym (has_last ws w v))) i });
      wagons = changed_more cs c ∙ ap (λ (us : List ℕ). us ++ c.wagon ∷ []) on.wagons ∙ ap (λ (us : List ℕ). ws ++ us) next.wagons;
      passed = λ v h. elim (or_cases (has ws v) (w == v) (sym (has_last ws w v) ∙ h)) [
        | inl e ↦ on.passed v e
        | inr e ↦ passed_too v e
      ];
      each = All-push (IsChange u) cs c (each_same t u (ap (λ (k : HubState). k.fleet) one.known) cs stays on.each) (All-head (IsChange u) c [] one.each);
    }

  -- journeys that have gone on can be taken back
  module _ (t : TableEntries) (ws : List ℕ) (cs : List Change) (on : HaveGoneOn s t m ws cs) where
    newest_back : (w : ℕ) → has ws w ≡ true → without_newest (journey_after s m w) ≡ s.journey w
    newest_back w h = ap without_newest (passed_last s m w (on.passed w h)) ∙ without_newest-push (s.journey w) (event_for s.offer m w)

    back_by : (w : ℕ) (b : Bool) → has ws w ≡ b → (let after = if b then journey_after s m w else s.journey w in if b then without_newest after else after) ≡ s.journey w
    back_by w true h = newest_back w h
    back_by w false h = refl

    pub was_before : known_before t cs ≡ s
    was_before =
        (λ i. let k = on.known i in record k { journey = λ w. if has (on.wagons i) w then without_newest (k.journey w) else k.journey w }) ∙
        (λ i. record s { journey = λ w. back_by w (has ws w) refl i })

    pub are_changes : all_differ ws ≡ true → AreChanges t cs
    are_changes differ = record { differ = ap all_differ on.wagons ∙ differ; each = on.each }

  twice : (b : Bool) (x y : List Event) → (if b then (if b then x else y) else y) ≡ (if b then x else y)
  twice true x y = refl
  twice false x y = refl

  -- all have gone on
  pub all_on : (t : TableEntries) (cs : List Change) → HaveGoneOn s t m (named_wagons s.offer m) cs → continues_journeys m.body ≡ true → all_differ (named_wagons s.offer m) ≡ true → HasGoneOn s t m cs
  all_on t cs on goes differ =
      let named = named_wagons s.offer m in
      let same : continued_in s m ≡ named = ap (λ (b : Bool). if b then named else []) goes in
      record {
        known =
            on.known ∙
            (λ i. record s { journey = λ w. (twice (has named w) (with_event (s.journey w) (event_for s.offer m w)) (s.journey w) ∙ ap (λ (b : Bool). if b then journey_after s m w else s.journey w) (sym goes)) i });
        wagons = on.wagons ∙ sym same;
        changes = are_changes t named cs on differ;
        before = was_before t named cs on;
      }

-- a plan goes on with no journey
pub plan_taken : (t : TableEntries) (m : Message) (cs : List Change) (found : Option Fault) → continues_journeys m.body ≡ false → cs ≡ [] → fault (table_state t) m ≡ found → IsTaken t t m cs found
plan_taken t m cs (Some f) goes empty is = (is, refl)
plan_taken t m cs None goes empty is =
    let s = table_state t in
    let none : continued_in s m ≡ [] = ap (λ (b : Bool). if b then named_wagons s.offer m else []) goes in (
      is,
      subst (HasGoneOn s t m) (sym empty) (record {
        known = sym (ap (λ (b : Bool). record s { journey = λ w. if b then journey_after s m w else s.journey w }) goes);
        wagons = sym none;
        changes = record { differ = refl; each = All-nil (IsChange t) };
        before = refl;
      }),
    )

-- the wagon at a place of those that the message names, which all differ
module _ (s : HubState) (m : Message) (goes : GoesOn s m) (wagons : List ℕ) (named : wagons ≡ named_wagons s.offer m) (i : ℕ) where
  so_far_differ : all_differ (take i wagons) ≡ true
  so_far_differ = differ_first (take i wagons) (drop i wagons) (ap all_differ (take-append-drop i wagons ∙ named) ∙ goes.differ)

  module _ (t : TableEntries) (cs : List Change) (on : HaveGoneOn s t m (take i wagons) cs) (faults : first_fault s m wagons ≡ first_fault s m (drop i wagons)) where
    -- where nothing more is changed, all are taken back
    module _ (u : TableEntries) (same : table_state u ≡ table_state t) where
      still_on : HaveGoneOn s u m (take i wagons) cs
      still_on = record { known = same ∙ on.known; wagons = on.wagons; passed = on.passed; each = each_same t u (ap (λ (k : HubState). k.fleet) same) cs (λ w h. ap (λ (k : HubState). k.journey w) same) on.each }

      pub changes_so_far : AreChanges u cs
      changes_so_far = are_changes s m u (take i wagons) cs still_on so_far_differ

      pub before_all : known_before u cs ≡ s
      before_all = was_before s m u (take i wagons) cs still_on

    pub all_taken : length wagons ≤ i → (fault s m ≡ None) × HasGoneOn s t m cs
    all_taken end =
        let all = take_all i wagons end ∙ named in (
          each_fault s m goes.whole goes.continues ∙ ap (first_fault s m) (sym named) ∙ faults ∙ at_drop_all (first_fault s m) wagons i end,
          all_on s m t cs (subst (λ (ws : List ℕ). HaveGoneOn s t m ws cs) all on) goes.continues goes.differ,
        )

    module _ (w : ℕ) (within : i < length wagons) (is : w ≡ get_or wagons i w) where
      is_named : has (named_wagons s.offer m) w ≡ true
      is_named = ap (λ (ws : List ℕ). has ws w) (sym named) ∙ has_at wagons i w within is

      splits : take i wagons ++ w ∷ drop (i + 1) wagons ≡ wagons
      splits = ap (λ v. take i wagons ++ v ∷ drop (i + 1) wagons) is ∙ sym (at_drop_more (λ (ws : List ℕ). take i wagons ++ ws) wagons i w within) ∙ take-append-drop i wagons

      is_new : has (take i wagons) w ≡ false
      is_new = next_differs (take i wagons) w (drop (i + 1) wagons) (ap all_differ (splits ∙ named) ∙ goes.differ)

      as_before : wagon_refusal (table_state t) m w ≡ wagon_refusal s m w
      as_before = ap (λ (k : HubState). wagon_refusal k m w) on.known ∙ same_refusal s m (take i wagons) w is_new

      pub whole_still : whole_fault (table_state t) m.by m.body ≡ None
      whole_still = ap (λ (k : HubState). whole_fault k m.by m.body) on.known ∙ same_whole s m (take i wagons) m.body ∙ goes.whole

      pub calendar_still : wagon_refusal (table_state t) m w ≡ None → fits (journey_after (table_state t) m w) ≡ true
      calendar_still none = ap (λ (k : HubState). fits (journey_after k m w)) on.known ∙ ap fits (same_after s m (take i wagons) w is_new) ∙ goes.calendar goes.continues w is_named (sym as_before ∙ none)

      -- the first fault is the wagon's, or that of the wagons behind it
      found : (o : Option Why) → wagon_refusal (table_state t) m w ≡ o → first_fault s m wagons ≡ option_or (option_map (at_wagon w) o) (first_fault s m (drop (i + 1) wagons))
      found o h =
          faults ∙ at_drop_more (first_fault s m) wagons i w within ∙ ap (λ v. first_fault s m (v ∷ drop (i + 1) wagons)) (sym is) ∙
          ap (λ (o : Option Why). option_or (option_map (at_wagon w) o) (first_fault s m (drop (i + 1) wagons))) (both_asked s m w m.body refl goes is_named ∙ sym as_before ∙ h)

      pub refused_here : (why : Why) → wagon_refusal (table_state t) m w ≡ Some why → fault s m ≡ Some (at_wagon w why)
      refused_here why h = each_fault s m goes.whole goes.continues ∙ ap (first_fault s m) (sym named) ∙ found (Some why) h

      pub passed_here : wagon_refusal (table_state t) m w ≡ None → first_fault s m wagons ≡ first_fault s m (drop (i + 1) wagons)
      passed_here h = found None h

      pub goes_further : (u : TableEntries) (c : Change) → HaveGoneOn (table_state t) u m (w ∷ []) (c ∷ []) → HaveGoneOn s u m (take (i + 1) wagons) (cs ++ c ∷ [])
      goes_further u c one =
          subst (λ (ws : List ℕ). HaveGoneOn s u m ws (cs ++ c ∷ [])) (ap (λ v. take i wagons ++ v ∷ []) is ∙ sym (take_more wagons i w within)) (one_more s m t u (take i wagons) cs w c on one is_new)
