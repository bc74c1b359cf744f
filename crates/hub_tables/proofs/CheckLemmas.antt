-- What the checks of a message's wagons and units come to.
use Rattle.hub_tables.proofs.Common.{◌≡◌, ℕ, Bool, true, false, cond, List, [], ◌∷◌, Option, Some, None, refl, sym, ap, ◌∙◌, true≢false, option_map, option_or, find, UnitLoad, Message, Body, Why, WagonBusy, is_busy, Fault, HubState, named_wagons, units_in, whole_fault, wagon_fault, first_fault, unit_fault, fault, continues_journeys, Trip}
use Rattle.taf_messages.specs.declared.message.Body.TheVariants as body

-- the fault at a wagon
abbrev pub at_wagon : ℕ → Why → Fault
at_wagon w why = record { why = why; wagon = Some w }

nothing_else : (o : Option Fault) → option_or o None ≡ o
nothing_else None = refl
nothing_else (Some f) = refl

-- a message that begins no journey loads no intermodal unit
no_units : (says : Body) → continues_journeys says ≡ true → units_in says ≡ []
no_units (body.Plan p) h = absurd (true≢false (sym h))
no_units _ h = refl

module _ (s : HubState) (m : Message) (whole : whole_fault s m.by m.body ≡ None) where
  part_fault : fault s m ≡ option_or (first_fault s m (named_wagons s.offer m)) (unit_fault s (units_in m.body))
  part_fault = ap (λ (o : Option Why). option_or (option_map (λ (why : Why). let f : Fault = record { why = why; wagon = None } in f) o) (option_or (first_fault s m (named_wagons s.offer m)) (unit_fault s (units_in m.body)))) whole

  -- of one that goes on with journeys, it is that of its wagons
  pub each_fault : continues_journeys m.body ≡ true → fault s m ≡ first_fault s m (named_wagons s.offer m)
  each_fault on =
      part_fault ∙ ap (λ (us : List UnitLoad). option_or (first_fault s m (named_wagons s.offer m)) (unit_fault s us)) (no_units m.body on) ∙ nothing_else (first_fault s m (named_wagons s.offer m))

  module _ (p : Trip) (is : m.body ≡ body.Plan p) where
    busy_by : (w : ℕ) (ws : List ℕ) (b : Bool) → is_busy (s.journey w) ≡ b → first_fault s m ws ≡ option_map (λ v. at_wagon v WagonBusy) (find (λ v. is_busy (s.journey v)) ws) →
        option_or (option_map (at_wagon w) (cond b (Some WagonBusy) None)) (first_fault s m ws) ≡ option_map (λ v. at_wagon v WagonBusy) (cond b (Some w) (find (λ v. is_busy (s.journey v)) ws))
    busy_by w ws true e h = refl
    busy_by w ws false e h = h

    first_busy : (ws : List ℕ) → first_fault s m ws ≡ option_map (λ w. at_wagon w WagonBusy) (find (λ w. is_busy (s.journey w)) ws)
    first_busy [] = refl
    first_busy (w ∷ ws) =
        ap (λ (says : Body). option_or (option_map (at_wagon w) (wagon_fault s m says w)) (first_fault s m ws)) is ∙ busy_by w ws (is_busy (s.journey w)) refl (first_busy ws)

    -- of a plan, it is that of the first wagon that is busy, or of the first unit
    pub plan_fault : (found : Option ℕ) → found ≡ find (λ w. is_busy (s.journey w)) p.wagons → fault s m ≡ option_or (option_map (λ w. at_wagon w WagonBusy) found) (unit_fault s p.units)
    plan_fault found f =
        part_fault ∙ ap (λ (says : Body). option_or (first_fault s m (named_wagons s.offer (record m { body = says }))) (unit_fault s (units_in says))) is ∙
        ap (λ (o : Option Fault). option_or o (unit_fault s p.units)) (first_busy p.wagons ∙ ap (option_map (λ w. at_wagon w WagonBusy)) (sym f))
