-- A message of these names changes what is looked up of them alike, and any other call changes nothing of it.
use Rattle.hub_model.proofs.Common.{◌≡◌, ℕ, Bool, true, false, cond, [], ◌∷◌, ◌++◌, ap, ◌∙◌, sym, flat_map, true≢false, Railway, Send, Ack, Reply, Acknowledged, Message, HubState, items_of, reply_to, after_call, step, accepts, accepted_message}
use Rattle.hub_model.proofs.DependencyLemmas.{reads_alike, items_of-same}
use Rattle.hub_model.proofs.FrameLemmas.{journey-other, plan_of-other, unit_plan-other, offer-other, is_open-other, first_send-other, accepts-same, journey-same, plan_of-same, unit_plan-same, offer-same, is_open-same, first_send-same}
use Rattle.hub_model.proofs.ApartLemmas.{counts_named}
use Rattle.carry_over.specs.Names.{Names, IsOnOneSide, is_of}
use Rattle.carry_over.specs.Carried.{AreSameFor}
use Rattle.carry_over.proofs.SideLemmas.{KeepsSides, counted_side, sides_send, sides_ack}
use Rattle.carry_over.proofs.SameLemmas.{same_at}

-- the accepted message makes the same items
made-same : (s t : HubState) (m : Message) (b c : Bool) → b ≡ c → items_of s m ≡ items_of t m → flat_map (items_of s) (cond b (m ∷ []) []) ≡ flat_map (items_of t) (cond c (m ∷ []) [])
made-same s t m true c e f = ap (λ xs. xs ++ []) f ∙ ap (λ d. flat_map (items_of t) (cond d (m ∷ []) [])) e
made-same s t m false c e f = ap (λ d. flat_map (items_of t) (cond d (m ∷ []) [])) e

module _ (names : Names) (s t : HubState) (k : KeepsSides names s) (a : AreSameFor names s t) (m : Message) (one : IsOnOneSide names m) where
  pub staying : is_of names m ≡ true → AreSameFor names (step s (Send m)) (step t (Send m))
  staying g =
      let r = same_at names s t k a m one g in
      record {
        journey = λ w h. journey-same s t m r w (a.journey w h);
        plan_of = λ c h. plan_of-same s t m r c (a.plan_of c h);
        unit_plan = λ u h. unit_plan-same s t m r u (a.unit_plan u h);
        offer = λ by n h. offer-same s t m r by n (a.offer by n h);
        is_open = λ by n h. is_open-same s t m r by n (a.is_open by n h);
        first_send = λ by n h. first_send-same s t m r by n (a.first_send by n h);
      }

  pub items-same : is_of names m ≡ true → flat_map (items_of s) (accepted_message s (Send m)) ≡ flat_map (items_of t) (accepted_message t (Send m))
  items-same g =
      let r = same_at names s t k a m one g in
      made-same s t m (accepts s m) (accepts t m) (accepts-same s t m r) (items_of-same s t m (reads_alike s t m r))

  named : (by : Railway) (n : ℕ) → m.by ≡ by → m.no ≡ n → names.message by n ≡ is_of names m
  named by n e f = sym (ap (λ r. names.message r m.no) e ∙ ap (names.message by) f)

  pub leaving : is_of names m ≡ false → AreSameFor names (step s (Send m)) t
  leaving g = record {
    journey = λ w h. journey-other s m w (λ e. true≢false (sym h ∙ counted_side names s k m one w (counts_named s m m.body w e) ∙ g)) ∙ a.journey w h;
    plan_of = λ c h. plan_of-other s m c (λ e. true≢false (sym h ∙ one.consignments c e ∙ g)) ∙ a.plan_of c h;
    unit_plan = λ u h. unit_plan-other s m u (λ e. true≢false (sym h ∙ one.units u e ∙ g)) ∙ a.unit_plan u h;
    offer = λ by n h. offer-other s m by n (λ e. true≢false (sym h ∙ one.offers by n e ∙ g)) ∙ a.offer by n h;
    is_open = λ by n h. is_open-other s m by n (λ e. true≢false (sym h ∙ one.offers by n e ∙ g)) ∙ a.is_open by n h;
    first_send = λ by n h. first_send-other s m by n (λ e f. true≢false (sym h ∙ named by n e f ∙ g)) ∙ a.first_send by n h;
  }

-- an acknowledgement changes nothing that is looked up of names
pub acked : (names : Names) (s t : HubState) → AreSameFor names s t → (by : Railway) (n : ℕ) (reply : Reply) → AreSameFor names (after_call s (Ack by n) reply) t
acked names s t a by n (Acknowledged i) = record { journey = a.journey; plan_of = a.plan_of; unit_plan = a.unit_plan; offer = a.offer; is_open = a.is_open; first_send = a.first_send }
acked names s t a by n _ = a

-- what holds of two states all along
pub record GoesAlong (names : Names) (s t : HubState) : Type 0 where
  pub sides : KeepsSides names s
  pub same : AreSameFor names s t

module _ (names : Names) where
  pub along_staying : (s t : HubState) → GoesAlong names s t → (m : Message) → IsOnOneSide names m → is_of names m ≡ true → GoesAlong names (step s (Send m)) (step t (Send m))
  along_staying s t g m one h = record { sides = sides_send names s g.sides m one; same = staying names s t g.sides g.same m one h }

  pub along_leaving : (s t : HubState) → GoesAlong names s t → (m : Message) → IsOnOneSide names m → is_of names m ≡ false → GoesAlong names (step s (Send m)) t
  along_leaving s t g m one h = record { sides = sides_send names s g.sides m one; same = leaving names s t g.sides g.same m one h }

  pub along_ack : (s t : HubState) → GoesAlong names s t → (by : Railway) (n : ℕ) → GoesAlong names (step s (Ack by n)) t
  along_ack s t g by n = record { sides = sides_ack names s g.sides by n (reply_to s (Ack by n)); same = acked names s t g.same by n (reply_to s (Ack by n)) }
