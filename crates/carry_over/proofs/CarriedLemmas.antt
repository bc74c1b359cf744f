-- What is known of these names goes along with their messages alone.
use Rattle.hub_model.proofs.Common.{◌≡◌, ℕ, Bool, true, false, cond, List, [], ◌∷◌, ◌++◌, refl, ap, ◌∙◌, sym, subst, filter, flat_map, fold, All-head, All-tail, Option, Some, None, option_map_or, or_cases, inl, inr, false≢true, true≢false, has, loads, UnitCode, unit_wagon, units_in, affected_wagons, affects_unit, Railway, Call, Send, Ask, AskUnit, Deviation, Fetch, Ack, Reply, Acknowledged, Message, IsSend, HubState, new_state, items_of, items_to, items_from, planned_in, fleet_after, reply_to, after_call, step, state_after, accepts, accepted_message}
use Rattle.hub_model.proofs.ListLemmas.{outbox_list}
use Rattle.hub_model.proofs.FrameLemmas.{accepts-same}
use Rattle.hub_model.specs.Replies.{records_of}
use Rattle.carry_over.specs.Names.{Names, IsOnOneSide, Divide, is_of, stays, messages_of}
use Rattle.carry_over.specs.Carried.{AreSameFor, ReplyAlike, items_of_names, OthersCanBeLeftBehind, OthersDoNotMatter, OthersAreApart}
use Rattle.carry_over.proofs.SideLemmas.{KeepsSides, counted_side, sides_at_first}
use Rattle.carry_over.proofs.SameLemmas.{same_at, unit_wagon-side}
use Rattle.carry_over.proofs.StepLemmas.{GoesAlong, along_staying, along_leaving, along_ack, items-same}
use Rattle.carry_over.proofs.ReplyLemmas.{reply_alike}
use Rattle.carry_over.proofs.FleetLemmas.{fleet-kept, fleet-dropped, fleet-step, planned_written, records-same}

acks_fleet : (s : HubState) (by : Railway) (n : ℕ) (reply : Reply) → (after_call s (Ack by n) reply).fleet ≡ s.fleet
acks_fleet s by n (Acknowledged i) = refl
acks_fleet s by n _ = refl

module _ (names : Names) where
  -- a fact of two states and the calls to come that holds all along
  module _ (P : HubState → HubState → List Call → Type 0) (none : (s t : HubState) → GoesAlong names s t → P s t [])
      (stay : (s t : HubState) (m : Message) (calls : List Call) → GoesAlong names s t → IsOnOneSide names m → is_of names m ≡ true → P (step s (Send m)) (step t (Send m)) calls → P s t (Send m ∷ calls))
      (leave : (s t : HubState) (call : Call) (calls : List Call) → IsSend (IsOnOneSide names) call → stays names call ≡ false → P (step s call) t calls → P s t (call ∷ calls)) where
    by_side : (s t : HubState) (m : Message) (calls : List Call) → GoesAlong names s t → IsOnOneSide names m → (b : Bool) → is_of names m ≡ b →
        ((x y : HubState) → GoesAlong names x y → P x y calls) → P s t (Send m ∷ calls)
    by_side s t m calls g one true e k = stay s t m calls g one e (k (step s (Send m)) (step t (Send m)) (along_staying names s t g m one e))
    by_side s t m calls g one false e k = leave s t (Send m) calls one e (k (step s (Send m)) t (along_leaving names s t g m one e))

    pub all_along : (calls : List Call) → Divide names calls → (s t : HubState) → GoesAlong names s t → P s t calls
    all_along [] d s t g = none s t g
    all_along (Send m ∷ calls) d s t g =
        by_side s t m calls g (All-head (IsSend (IsOnOneSide names)) (Send m) calls d) (is_of names m) refl (all_along calls (All-tail (IsSend (IsOnOneSide names)) (Send m) calls d))
    all_along (Ack by n ∷ calls) d s t g = leave s t (Ack by n) calls tt refl (all_along calls (All-tail (IsSend (IsOnOneSide names)) (Ack by n) calls d) (step s (Ack by n)) t (along_ack names s t g by n))
    all_along (Ask by w ∷ calls) d s t g = leave s t (Ask by w) calls tt refl (all_along calls (All-tail (IsSend (IsOnOneSide names)) (Ask by w) calls d) s t g)
    all_along (AskUnit by u ∷ calls) d s t g = leave s t (AskUnit by u) calls tt refl (all_along calls (All-tail (IsSend (IsOnOneSide names)) (AskUnit by u) calls d) s t g)
    all_along (Deviation by c ∷ calls) d s t g = leave s t (Deviation by c) calls tt refl (all_along calls (All-tail (IsSend (IsOnOneSide names)) (Deviation by c) calls d) s t g)
    all_along (Fetch by limit ∷ calls) d s t g = leave s t (Fetch by limit) calls tt refl (all_along calls (All-tail (IsSend (IsOnOneSide names)) (Fetch by limit) calls d) s t g)

  at_first : GoesAlong names new_state new_state
  at_first = record {
    sides = sides_at_first names;
    same = record { journey = λ w h. refl; plan_of = λ c h. refl; unit_plan = λ u h. refl; offer = λ by n h. refl; is_open = λ by n h. refl; first_send = λ by n h. refl };
  }

  first_stays : (call : Call) (calls : List Call) → stays names call ≡ true → messages_of names (call ∷ calls) ≡ call ∷ messages_of names calls
  first_stays call calls e = ap (λ b. cond b (call ∷ messages_of names calls) (messages_of names calls)) e

  first_leaves : (call : Call) (calls : List Call) → stays names call ≡ false → messages_of names (call ∷ calls) ≡ messages_of names calls
  first_leaves call calls e = ap (λ b. cond b (call ∷ messages_of names calls) (messages_of names calls)) e

  -- the states go along
  abbrev StillAlong : HubState → HubState → List Call → Type 0
  StillAlong s t calls = GoesAlong names (fold step s calls) (fold step t (messages_of names calls))

  pub still_along : (calls : List Call) → Divide names calls → GoesAlong names (state_after calls) (state_after (messages_of names calls))
  still_along calls d =
      all_along StillAlong (λ s t g. g)
      (λ s t m calls g one e p. subst (λ cs. GoesAlong names (fold step (step s (Send m)) calls) (fold step t cs)) (sym (first_stays (Send m) calls e)) p)
      (λ s t call calls one e p. subst (λ cs. GoesAlong names (fold step (step s call) calls) (fold step t cs)) (sym (first_leaves call calls e)) p)
      calls d new_state new_state at_first

  -- the items that are made are those of the messages that stay
  abbrev SameItems : HubState → HubState → List Call → Type 0
  SameItems s t calls = items_from t (messages_of names calls) ≡ items_of_names names s calls

  items_stay : (s t : HubState) (m : Message) (calls : List Call) → is_of names m ≡ true → flat_map (items_of s) (accepted_message s (Send m)) ≡ flat_map (items_of t) (accepted_message t (Send m)) →
      SameItems (step s (Send m)) (step t (Send m)) calls → SameItems s t (Send m ∷ calls)
  items_stay s t m calls e f k =
      ap (items_from t) (first_stays (Send m) calls e) ∙
      ap (λ xs. xs ++ items_from (step t (Send m)) (messages_of names calls)) (sym f) ∙
      ap (λ xs. flat_map (items_of s) (accepted_message s (Send m)) ++ xs) k ∙
      ap (λ b. cond b (flat_map (items_of s) (accepted_message s (Send m))) [] ++ items_of_names names (step s (Send m)) calls) (sym e)

  items_leave : (s t : HubState) (call : Call) (calls : List Call) → stays names call ≡ false → SameItems (step s call) t calls → SameItems s t (call ∷ calls)
  items_leave s t call calls e k =
      ap (items_from t) (first_leaves call calls e) ∙ k ∙
      ap (λ b. cond b (flat_map (items_of s) (accepted_message s call)) [] ++ items_of_names names (step s call) calls) (sym e)

  same_items : (calls : List Call) → Divide names calls → items_from new_state (messages_of names calls) ≡ items_of_names names new_state calls
  same_items calls d =
      all_along SameItems (λ s t g. refl)
      (λ s t m calls g one e k. items_stay s t m calls e (items-same names s t g.sides g.same m one e) k)
      (λ s t call calls one e k. items_leave s t call calls e k)
      calls d new_state new_state at_first

  -- the fleet is that of these names
  abbrev SameFleet : HubState → HubState → List Call → Type 0
  SameFleet s t calls = t.fleet ≡ filter names.wagon s.fleet → (fold step t (messages_of names calls)).fleet ≡ filter names.wagon (fold step s calls).fleet

  kept_either : (b c : Bool) (before others wagons : List ℕ) → b ≡ c → others ≡ filter names.wagon before → ((w : ℕ) → has wagons w ≡ true → names.wagon w ≡ true) →
      cond c (fleet_after others wagons) others ≡ filter names.wagon (cond b (fleet_after before wagons) before)
  kept_either true c before others wagons e f h = ap (λ d. cond d (fleet_after others wagons) others) (sym e) ∙ ap (λ xs. fleet_after xs wagons) f ∙ fleet-kept names.wagon before wagons h
  kept_either false c before others wagons e f h = ap (λ d. cond d (fleet_after others wagons) others) (sym e) ∙ f

  fleet_stay : (s t : HubState) (m : Message) → GoesAlong names s t → IsOnOneSide names m → is_of names m ≡ true → t.fleet ≡ filter names.wagon s.fleet → (step t (Send m)).fleet ≡ filter names.wagon (step s (Send m)).fleet
  fleet_stay s t m g one e f =
      fleet-step t m ∙
      kept_either (accepts s m) (accepts t m) s.fleet t.fleet (planned_in m.body) (accepts-same s t m (same_at names s t g.sides g.same m one e)) f (λ w h. one.wagons w (planned_written m.body w h) ∙ e) ∙
      ap (filter names.wagon) (sym (fleet-step s m))

  dropped_either : (b : Bool) (before wagons : List ℕ) → ((w : ℕ) → has wagons w ≡ true → names.wagon w ≡ false) → filter names.wagon before ≡ filter names.wagon (cond b (fleet_after before wagons) before)
  dropped_either true before wagons h = fleet-dropped names.wagon before wagons h
  dropped_either false before wagons h = refl

  fleet_leave : (s : HubState) (call : Call) → IsSend (IsOnOneSide names) call → stays names call ≡ false → filter names.wagon s.fleet ≡ filter names.wagon (step s call).fleet
  fleet_leave s (Send m) one e =
      dropped_either (accepts s m) s.fleet (planned_in m.body) (λ w h. one.wagons w (planned_written m.body w h) ∙ e) ∙ ap (filter names.wagon) (sym (fleet-step s m))
  fleet_leave s (Ack by n) one e = ap (filter names.wagon) (sym (acks_fleet s by n (reply_to s (Ack by n))))
  fleet_leave s _ one e = refl

  same_fleet : (calls : List Call) → Divide names calls → (state_after (messages_of names calls)).fleet ≡ filter names.wagon (state_after calls).fleet
  same_fleet calls d =
      all_along SameFleet (λ s t g f. f)
      (λ s t m calls g one e k f. ap (λ cs. (fold step t cs).fleet) (first_stays (Send m) calls e) ∙ k (fleet_stay s t m g one e f))
      (λ s t call calls one e k f. ap (λ cs. (fold step t cs).fleet) (first_leaves call calls e) ∙ k (f ∙ fleet_leave s call one e))
      calls d new_state new_state at_first refl

pub others_can_be_left_behind : OthersCanBeLeftBehind
others_can_be_left_behind names calls d =
    let g = still_along names calls d in
    record {
      same = g.same;
      replies = reply_alike names (state_after calls) (state_after (messages_of names calls)) g.sides g.same;
      items = λ r. outbox_list r (messages_of names calls) ∙ ap (items_to r) (same_items names calls d);
      fleet = same_fleet names calls d;
      records =
          ap (records_of (state_after (messages_of names calls))) (same_fleet names calls d) ∙
          records-same names (state_after calls) (state_after (messages_of names calls)) g.same (state_after calls).fleet;
    }

-- two states that are the same as a third
module _ (names : Names) (s t u : HubState) (a : AreSameFor names s u) (b : AreSameFor names t u) where
  same_both : AreSameFor names s t
  same_both = record {
    journey = λ w h. a.journey w h ∙ sym (b.journey w h);
    plan_of = λ c h. a.plan_of c h ∙ sym (b.plan_of c h);
    unit_plan = λ v h. a.unit_plan v h ∙ sym (b.unit_plan v h);
    offer = λ by n h. a.offer by n h ∙ sym (b.offer by n h);
    is_open = λ by n h. a.is_open by n h ∙ sym (b.is_open by n h);
    first_send = λ by n h. a.first_send by n h ∙ sym (b.first_send by n h);
  }

pub others_do_not_matter : OthersDoNotMatter
others_do_not_matter names before after d e f =
    let x = others_can_be_left_behind names before d in
    let y = others_can_be_left_behind names after e in
    let kept : state_after (messages_of names after) ≡ state_after (messages_of names before) = ap state_after (sym f) in
    let same : AreSameFor names (state_after after) (state_after (messages_of names before)) = subst (AreSameFor names (state_after after)) kept y.same in
    let alike : ReplyAlike names (state_after after) (state_after (messages_of names before)) = subst (ReplyAlike names (state_after after)) kept y.replies in (
      same_both names (state_after before) (state_after after) (state_after (messages_of names before)) x.same same,
      λ call c. x.replies call c ∙ sym (alike call c),
    )

-- a unit that a message counts with is on its side
module _ (names : Names) (s : HubState) (k : KeepsSides names s) (m : Message) (one : IsOnOneSide names m) where
  unit_by_wagon : (u : UnitCode) (o : Option ℕ) → unit_wagon s u ≡ o → option_map_or (λ w. has (affected_wagons s m m.body) w) o false ≡ true → names.unit u ≡ is_of names m
  unit_by_wagon u None e h = absurd (false≢true h)
  unit_by_wagon u (Some w) e h = sym (unit_wagon-side names s k u w e) ∙ counted_side names s k m one w h

  pub unit_side : (u : UnitCode) → affects_unit s m u ≡ true → names.unit u ≡ is_of names m
  unit_side u h =
      elim (or_cases (loads (units_in m.body) u) (option_map_or (λ w. has (affected_wagons s m m.body) w) (unit_wagon s u) false) h) [
        | inl e ↦ one.units u e
        | inr e ↦ unit_by_wagon u (unit_wagon s u) refl e
      ]

pub others_are_apart : OthersAreApart
others_are_apart names calls m n d one also h e =
    let s = state_after calls in
    let k = (still_along names calls d).sides in
    let differ : is_of names m ≡ is_of names n → ⊥ = λ f. true≢false (sym h ∙ f ∙ e) in
    record {
      wagons = λ w f g. differ (sym (counted_side names s k m one w f) ∙ counted_side names s k n also w g);
      units = λ u f g. differ (sym (unit_side names s k m one u f) ∙ unit_side names s k n also u g);
      consignments = λ c f g. differ (sym (one.consignments c f) ∙ also.consignments c g);
      offers = λ by i f g. differ (sym (one.offers by i f) ∙ also.offers by i g);
      names = λ f g. differ (ap (λ r. names.message r m.no) f ∙ ap (names.message n.by) g);
    }
