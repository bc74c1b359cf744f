-- What a call changes, and what it goes by.
use Rattle.hub_model.proofs.Common.{◌≡◌, ℕ, false, cond, not, subst, List, Option, Some, None, refl, ap, ◌∙◌, sym, option_map_or, option_and_then, true≢false, Railway, UnitCode, Call, Send, Ask, AskUnit, Deviation, Fetch, Ack, Reply, Accepted, Refused, refused, One, Many, Items, Acknowledged, NumberReused, Message, newest, from_last, is_plan, is_delivered, Fault, HubState, FirstSend, wagon_by, loaded_on, is_unit_busy, fault, reply_to, send_reply, verdict, after_call, plan_given, unit_plan_given, state_after, accepted_in, offers_in, is_open_in, events_from, is_change, AreUnchanged, OthersChangeNothing, TakenOnce, AnsweredAsAtFirst, JudgedByTheAccepted}
use Rattle.hub_model.proofs.StepLemmas.{sent, step-send}
use Rattle.hub_model.proofs.DependencyLemmas.{AreSameAt, reads_alike, fault-same, items_of-same}
use Rattle.hub_model.proofs.LookupLemmas.{lookups_are_the_lists}

same : (s : HubState) → AreUnchanged s s
same s = record {
  journey = λ w. refl;
  plan_of = λ c. refl;
  unit_plan = λ u. refl;
  offer = λ by n. refl;
  is_open = λ by n. refl;
  acknowledged = λ r. refl;
  outbox = λ r. refl;
  fleet = refl;
}

-- a message that is sent again, or that has a fault
unchanged_sent : (s : HubState) (m : Message) (first : Option FirstSend) (f : Option Fault) → is_change (send_reply s m first) ≡ false → f ≡ fault s m → AreUnchanged s (sent s m first f)
unchanged_sent s m (Some send_of_name) f h e = same s
unchanged_sent s m None (Some f) h e = record {
  journey = λ w. refl;
  plan_of = λ c. refl;
  unit_plan = λ u. refl;
  offer = λ by n. refl;
  is_open = λ by n. refl;
  acknowledged = λ r. refl;
  outbox = λ r. refl;
  fleet = refl;
}
unchanged_sent s m None None h e = absurd (true≢false (ap (λ g. is_change (verdict m.no g)) e ∙ h))

unchanged_ack : (s : HubState) (by : Railway) (k : ℕ) (reply : Reply) → is_change reply ≡ false → AreUnchanged s (after_call s (Ack by k) reply)
unchanged_ack s by k (Acknowledged n) h = absurd (true≢false h)
unchanged_ack s by k (Accepted n) h = same s
unchanged_ack s by k (Refused r) h = same s
unchanged_ack s by k (One r) h = same s
unchanged_ack s by k (Many rs) h = same s
unchanged_ack s by k (Items is) h = same s

pub others_change_nothing : OthersChangeNothing
others_change_nothing s (Send m) h = subst (AreUnchanged s) (sym (step-send s m)) (unchanged_sent s m (s.first_send m.by m.no) (fault s m) h refl)
others_change_nothing s (Ack by k) h = unchanged_ack s by k (reply_to s (Ack by k)) h
others_change_nothing s (Ask by w) h = same s
others_change_nothing s (AskUnit by u) h = same s
others_change_nothing s (Deviation by c) h = same s
others_change_nothing s (Fetch by limit) h = same s

pub taken_once : TakenOnce
taken_once s m first h = step-send s m ∙ ap (λ o. sent s m o (fault s m)) h

pub answered_as_at_first : AnsweredAsAtFirst
answered_as_at_first s m first h same = ap (send_reply s m) h ∙ ap (λ b. cond b first.reply (refused (Some m.no) NumberReused None None)) same

-- lists with the same accepted messages look the same up
same_unit : (s t : HubState) (u : UnitCode) → s.journey ≡ t.journey → s.unit_plan u ≡ t.unit_plan u → is_unit_busy s u ≡ is_unit_busy t u
same_unit s t u e p =
    ap (λ j. option_map_or (λ w. not (is_delivered (j w))) (option_and_then (λ q. wagon_by j q (loaded_on q u)) (s.unit_plan u)) false) e ∙
    ap (λ o. option_map_or (λ w. not (is_delivered (t.journey w))) (option_and_then (λ q. wagon_by t.journey q (loaded_on q u)) o) false) p

-- the second as the hub knows it, with the first sends of the first
abbrev with_sends : HubState → HubState → HubState
with_sends s t = record t { first_send = s.first_send }

same_at : (before after : List Call) (m : Message) → accepted_in before ≡ accepted_in after → AreSameAt (state_after before) (with_sends (state_after before) (state_after after)) m
same_at before after m e =
    let b = lookups_are_the_lists before in
    let a = lookups_are_the_lists after in
    let s = state_after before in
    let t = with_sends s (state_after after) in
    let journey : (w : ℕ) → s.journey w ≡ t.journey w = λ w. b.journey w ∙ ap (λ ms. from_last (λ d. is_plan d.body) (events_from ms w)) e ∙ sym (a.journey w) in
    record {
      wagons = λ w h. journey w;
      units = λ u h. same_unit s t u (λ i w. journey w i) (b.unit_plan u ∙ ap (newest (λ n. unit_plan_given n.body u)) e ∙ sym (a.unit_plan u));
      consignment = λ c h. b.plan_of c ∙ ap (newest (λ n. plan_given n.body c)) e ∙ sym (a.plan_of c);
      offers = λ by n h. b.offer by n ∙ ap (λ ms. offers_in ms by n) e ∙ sym (a.offer by n);
      opens = λ by n h. b.is_open by n ∙ ap (λ ms. is_open_in ms by n) e ∙ sym (a.is_open by n);
      first_sends = refl;
    }

pub judged_by_the_accepted : JudgedByTheAccepted
judged_by_the_accepted before after m e =
    let s = state_after before in
    let t = with_sends s (state_after after) in
    let here = same_at before after m e in
    (fault-same s t m here, items_of-same s t m (reads_alike s t m here))
