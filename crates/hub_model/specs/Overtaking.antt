-- Messages that may come in either order.
use Rattle.std.specs.Prelude.{◌≡◌, ◌↔◌, ℕ, Bool, true, false, not, ◌&&◌, ◌||◌, IsTrue, List, [], ◌∷◌, ◌++◌, Option, Some, None, bytes_eq, IsPermutation}
use Rattle.std.specs.Option.{option_map_or}
use Rattle.std.specs.List.{list_any}
use Rattle.hub_model.specs.Common.{Railway, UnitCode, ConsignmentId, has, loads, Call, Send, Fetch, Message, Body, wagons_of, same_name}
use Rattle.taf_messages.specs.declared.message.Body.TheVariants as body
use Rattle.hub_model.specs.HubState.{HubState, named_wagons}
use Rattle.hub_model.specs.Units.{unit_wagon, units_in}
use Rattle.hub_model.specs.Replies.{reply_to}
use Rattle.hub_model.specs.Histories.{state_after}

-- the wagons that a message counts with
abbrev pub affected_wagons : HubState → Message → Body → List ℕ
affected_wagons s m (body.Answer a) = named_wagons s.offer m ++ wagons_of (s.offer a.offerer a.offer)
affected_wagons s m _ = named_wagons s.offer m

-- the consignment of a plan
abbrev pub consignment_in : Body → Option ConsignmentId
consignment_in (body.Plan p) = Some p.consignment
consignment_in _ = None

-- the name of the offer that it makes, answers or withdraws
abbrev pub offer_named : Message → Body → Option (Railway × ℕ)
offer_named m (body.Offer o) = Some (m.by, m.no)
offer_named m (body.Answer a) = Some (a.offerer, a.offer)
offer_named m (body.Withdraw at n) = Some (m.by, n)
offer_named m _ = None

-- a message counts with the units that it loads, and with those whose wagon it counts with
abbrev pub affects_unit : HubState → Message → UnitCode → Bool
affects_unit s m u = loads (units_in m.body) u || option_map_or (λ w. has (affected_wagons s m m.body) w) (unit_wagon s u) false

-- both are there, and are the same
abbrev pub both_same : {A : Type 0} → (A → A → Bool) → Option A → Option A → Bool
both_same same (Some a) (Some b) = same a b
both_same same _ _ = false

-- a wagon is in both lists
abbrev pub have_common_wagon : List ℕ → List ℕ → Bool
have_common_wagon ws vs = list_any (has vs) ws

-- the first loads a unit that the second counts with
abbrev pub loads_affected : HubState → Message → Message → Bool
loads_affected s m n = list_any (λ l. affects_unit s n l.unit) (units_in m.body)

-- two names are the same
abbrev pub same_offer_name : Railway × ℕ → Railway × ℕ → Bool
same_offer_name a b = same_name a.0 a.1 b.0 b.1

-- they share no wagon, unit, consignment, offer or name
pub record AreApart (s : HubState) (m n : Message) : Type 0 where
  pub wagons : (w : ℕ) → has (affected_wagons s m m.body) w ≡ true → has (affected_wagons s n n.body) w ≡ true → ⊥
  pub units : (u : UnitCode) → affects_unit s m u ≡ true → affects_unit s n u ≡ true → ⊥
  pub consignments : (c : ConsignmentId) → Path (Option ConsignmentId) (consignment_in m.body) (Some c) → Path (Option ConsignmentId) (consignment_in n.body) (Some c) → ⊥
  pub offers : (by : Railway) (k : ℕ) → Path (Option (Railway × ℕ)) (offer_named m m.body) (Some (by, k)) → Path (Option (Railway × ℕ)) (offer_named n n.body) (Some (by, k)) → ⊥
  pub names : m.by ≡ n.by → m.no ≡ n.no → ⊥

-- the same as a test; without a wagon in common, a unit in common is one that either loads
abbrev pub is_apart : HubState → Message → Message → Bool
is_apart s m n =
    not (have_common_wagon (affected_wagons s m m.body) (affected_wagons s n n.body)) &&
    (not (loads_affected s m n) &&
    (not (loads_affected s n m) &&
    (not (both_same bytes_eq (consignment_in m.body) (consignment_in n.body)) &&
    (not (both_same same_offer_name (offer_named m m.body) (offer_named n n.body)) &&
    not (same_name m.by m.no n.by n.no)))))

-- the test finds exactly the messages that are apart
abbrev pub ApartIsExact : Type 0
ApartIsExact = (s : HubState) (m n : Message) → IsTrue (is_apart s m n) ↔ AreApart s m n

-- the same is looked up, but for the order of a railway's items and of the fleet
pub record AreAlike (s t : HubState) : Type 0 where
  pub journey : (w : ℕ) → s.journey w ≡ t.journey w
  pub plan_of : (c : ConsignmentId) → s.plan_of c ≡ t.plan_of c
  pub unit_plan : (u : UnitCode) → s.unit_plan u ≡ t.unit_plan u
  pub offer : (by : Railway) (n : ℕ) → s.offer by n ≡ t.offer by n
  pub is_open : (by : Railway) (n : ℕ) → s.is_open by n ≡ t.is_open by n
  pub first_send : (by : Railway) (n : ℕ) → s.first_send by n ≡ t.first_send by n
  pub acknowledged : (r : Railway) → s.acknowledged r ≡ t.acknowledged r
  pub outbox : (r : Railway) → IsPermutation (s.outbox r) (t.outbox r)

-- the call fetches items
abbrev pub IsFetch : Call → Type 0
IsFetch (Fetch by limit) = Unit {0}
IsFetch _ = ⊥

-- whichever of two messages comes first, each gets the same reply, and the two lists are alike
abbrev pub MayOvertake : Type 0
MayOvertake = (calls : List Call) (m n : Message) → IsTrue (is_apart (state_after calls) m n) →
    (reply_to (state_after (calls ++ Send m ∷ [])) (Send n) ≡ reply_to (state_after calls) (Send n)) ×
    (reply_to (state_after (calls ++ Send n ∷ [])) (Send m) ≡ reply_to (state_after calls) (Send m)) ×
    AreAlike (state_after (calls ++ Send m ∷ Send n ∷ [])) (state_after (calls ++ Send n ∷ Send m ∷ []))

-- alike lists stay alike under any call, and reply alike to each that is no fetch
abbrev pub StayAlike : Type 0
StayAlike = (before after : List Call) (call : Call) → AreAlike (state_after before) (state_after after) →
    AreAlike (state_after (before ++ call ∷ [])) (state_after (after ++ call ∷ [])) ×
    ((IsFetch call → ⊥) → reply_to (state_after before) call ≡ reply_to (state_after after) call)

-- and through any calls that follow
abbrev pub StayAlikeThrough : Type 0
StayAlikeThrough = (before after calls : List Call) → AreAlike (state_after before) (state_after after) →
    AreAlike (state_after (before ++ calls)) (state_after (after ++ calls))
