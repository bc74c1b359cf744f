-- Where the same is looked up of some names, a message of theirs finds the same; so does whoever looks for one of their units.
use Rattle.hub_model.proofs.Common.{◌≡◌, ℕ, Bool, true, false, cond, not, Option, Some, None, refl, ap, ◌∙◌, option_map_or, option_and_then, List, UnitCode, Trip, Message, Event, is_delivered, HubState, unit_wagon, is_unit_busy, wagon_by, loaded_on, is_on_plan}
use Rattle.hub_model.proofs.DependencyLemmas.{AreSameAt}
use Rattle.hub_model.proofs.UnitFrameLemmas.{none_is_some}
use Rattle.carry_over.specs.Names.{Names, IsOnOneSide, is_of}
use Rattle.carry_over.specs.Carried.{AreSameFor}
use Rattle.carry_over.proofs.SideLemmas.{KeepsSides, counted_side}

chosen : (b : Bool) (v w : ℕ) → cond b (Some v) None ≡ Some w → Path (Option ℕ) (Some v) (Some w)
chosen true v w h = h
chosen false v w h = absurd (none_is_some w h)

-- a plan's wagon is the one that it loads the unit on
loaded_wagon : (journey : ℕ → List Event) (p : Trip) (o : Option ℕ) (w : ℕ) → wagon_by journey p o ≡ Some w → o ≡ Some w
loaded_wagon journey p None w h = absurd (none_is_some w h)
loaded_wagon journey p (Some v) w h = chosen (is_on_plan (journey v) p) v w h

-- the wagon of a unit is on the side of the unit
module _ (names : Names) (s : HubState) (k : KeepsSides names s) where
  side_by_plan : (u : UnitCode) (o : Option Trip) → s.unit_plan u ≡ o → (w : ℕ) → option_and_then (λ p. wagon_by s.journey p (loaded_on p u)) o ≡ Some w → names.wagon w ≡ names.unit u
  side_by_plan u None e w h = absurd (none_is_some w h)
  side_by_plan u (Some p) e w h = k.units u p w e (loaded_wagon s.journey p (loaded_on p u) w h)

  pub unit_wagon-side : (u : UnitCode) (w : ℕ) → unit_wagon s u ≡ Some w → names.wagon w ≡ names.unit u
  unit_wagon-side u w h = side_by_plan u (s.unit_plan u) refl w h

module _ (names : Names) (s t : HubState) (k : KeepsSides names s) (a : AreSameFor names s t) where
  wagon_by_load : (p : Trip) (o : Option ℕ) → ((w : ℕ) → o ≡ Some w → names.wagon w ≡ true) → wagon_by s.journey p o ≡ wagon_by t.journey p o
  wagon_by_load p None h = refl
  wagon_by_load p (Some w) h = ap (λ events. cond (is_on_plan events p) (Some w) None) (a.journey w (h w refl))

  wagon_by_plan : (u : UnitCode) → names.unit u ≡ true → (o : Option Trip) → s.unit_plan u ≡ o →
      option_and_then (λ p. wagon_by s.journey p (loaded_on p u)) o ≡ option_and_then (λ p. wagon_by t.journey p (loaded_on p u)) o
  wagon_by_plan u h None e = refl
  wagon_by_plan u h (Some p) e = wagon_by_load p (loaded_on p u) (λ w l. k.units u p w e l ∙ h)

  -- the same wagon is found of a unit
  pub unit_wagon-same : (u : UnitCode) → names.unit u ≡ true → unit_wagon s u ≡ unit_wagon t u
  unit_wagon-same u h =
      wagon_by_plan u h (s.unit_plan u) refl ∙
      ap (λ o. option_and_then (λ p. wagon_by t.journey p (loaded_on p u)) o) (a.unit_plan u h)

  busy_by : (o : Option ℕ) → ((w : ℕ) → o ≡ Some w → s.journey w ≡ t.journey w) →
      option_map_or (λ w. not (is_delivered (s.journey w))) o false ≡ option_map_or (λ w. not (is_delivered (t.journey w))) o false
  busy_by None h = refl
  busy_by (Some w) h = ap (λ events. not (is_delivered events)) (h w refl)

  unit_busy-same : (u : UnitCode) → names.unit u ≡ true → is_unit_busy s u ≡ is_unit_busy t u
  unit_busy-same u h =
      busy_by (unit_wagon s u) (λ w e. a.journey w (unit_wagon-side names s k u w e ∙ h)) ∙
      ap (λ o. option_map_or (λ w. not (is_delivered (t.journey w))) o false) (unit_wagon-same u h)

  -- a message of these names finds the same
  pub same_at : (m : Message) → IsOnOneSide names m → is_of names m ≡ true → AreSameAt s t m
  same_at m one h = record {
    wagons = λ w e. a.journey w (counted_side names s k m one w e ∙ h);
    units = λ u e. unit_busy-same u (one.units u e ∙ h);
    consignment = λ c e. a.plan_of c (one.consignments c e ∙ h);
    offers = λ by n e. a.offer by n (one.offers by n e ∙ h);
    opens = λ by n e. a.is_open by n (one.offers by n e ∙ h);
    first_sends = a.first_send m.by m.no h;
  }
