-- Journeys that go on in the table of wagons.
use Rattle.hub_tables.proofs.Common.{◌≡◌, ℕ, ◌==◌, Bool, true, false, cond, List, [], ◌∷◌, ◌++◌, length, Option, Some, IfSome, refl, sym, ap, subst, ◌∙◌, arith, true≢false, if◌then◌else◌, nat_eq, option_map_or, lookup, keys_of, update_all, IndexMap, get, insert_entry, insert_all, eqb-true, numbers, Event, Journey, is_unknown, is_some, first_plan, without_newest, WagonState, IsStateBefore, events_in, IsJourneyEntry, AreJourneyEntries, slice_get, map, zero, suc, lookup_from_place, is_equivalence, same_Some, values, with_value_at, IsUnique, updates-with_value_at, keys-with_value_at, ConsignmentId, UnitCode, Trip, OfferTable, table_state, with_journey}

pub nothing_left : {X : Type 0} (xs : List X) → length xs ≡ 0 → xs ≡ []
nothing_left [] h = refl
nothing_left (x ∷ xs) h = absurd (omega arith)

-- the events of a journey, if there is one
abbrev pub of_journey : Option Journey → List Event
of_journey o = option_map_or (λ j. j.events) o []

-- the key at a position is that of the entry there
pub key_at : {K V : Type 0} (es : List (K × V)) (i : ℕ) (e : K × V) → slice_get es i ≡ Some e → slice_get (keys_of es) i ≡ Some e.0
key_at [] i e h = cc
key_at {K} {V} (x ∷ es) zero e h = ap (λ (y : K × V). Some y.0) (same_Some x e h)
key_at (x ∷ es) (suc i) e h = key_at es i e h

-- a key and a value at a position are the entry there
entry_at : {K V : Type 0} (es : List (K × V)) (i : ℕ) (k : K) (v : V) → slice_get (keys_of es) i ≡ Some k → slice_get (map (λ e. e.1) es) i ≡ Some v → slice_get es i ≡ Some (k, v)
entry_at [] i k v h g = cc
entry_at (e ∷ es) zero k v h g = λ i. Some (same_Some e.0 k h i, same_Some e.1 v g i)
entry_at (e ∷ es) (suc i) k v h g = entry_at es i k v h g

-- a test whose answer does not matter
either_way : (b : Bool) (events : List Event) → (if b then events else events) ≡ events
either_way true events = refl
either_way false events = refl

-- the journey of a wagon that is found by its position
module _ {S : Type 0} (wagons : IndexMap ℕ Journey S) (w position : ℕ) (j : Journey) (distinct : IsUnique nat_eq wagons) (key : slice_get (keys_of wagons.entries) position ≡ Some w)
    (value : slice_get (values wagons) position ≡ Some j)
  where
    abbrev before : List (ℕ × Journey)
    before = wagons.entries

    entry : slice_get before position ≡ Some (w, j)
    entry = entry_at before position w j key value

    found : lookup (nat_eq w) before ≡ Some j
    found = lookup_from_place (is_equivalence nat_eq numbers) before position w j distinct entry

    -- its events are those that the table has
    pub there : events_in before w ≡ j.events
    there = ap of_journey found

    -- another journey is written in its place, whose events are made of those before
    module _ (k : Journey) (change : List Event → List Event) (put : k ≡ record j { events = change j.events }) where
      abbrev after : List (ℕ × Journey)
      after = (with_value_at wagons position k).entries

      written : (q : ℕ) → lookup (nat_eq q) after ≡ cond (nat_eq w q) (Some k) (lookup (nat_eq q) before)
      written = (updates-with_value_at wagons position k (is_equivalence nat_eq numbers) distinct w j entry).0

      put_by : (q : ℕ) (b : Bool) → nat_eq w q ≡ b → of_journey (cond b (Some k) (lookup (nat_eq q) before)) ≡ (if b then change (events_in before q) else events_in before q)
      put_by q true same = ap (λ (t : Journey). t.events) put ∙ ap change (sym there ∙ ap (events_in before) (eqb-true w q same))
      put_by q false same = refl

      put_there : (q : ℕ) → events_in after q ≡ (if w == q then change (events_in before q) else events_in before q)
      put_there q = ap of_journey (written q) ∙ put_by q (nat_eq w q) refl

      -- all else that is known is as it was
      pub known_there : (plans : List (ConsignmentId × Trip)) (units : List (UnitCode × Trip)) (offers : OfferTable) →
          table_state (record { wagons = after; plans = plans; units = units; offers = offers }) ≡ with_journey (table_state (record { wagons = before; plans = plans; units = units; offers = offers })) w change
      known_there plans units offers =
          λ i. record (table_state (record { wagons = before; plans = plans; units = units; offers = offers })) { journey = λ q. put_there q i; fleet = keys-with_value_at wagons position k i }

      module _ (journeys : AreJourneyEntries before) (begun : is_unknown (change j.events) ≡ false) where
        here : IsJourneyEntry w j
        here = subst (λ (o : Option Journey). IfSome o (IsJourneyEntry w)) found (journeys w)

        new_entry : IsJourneyEntry w k
        new_entry = record {
          wagon = ap (λ (t : Journey). t.wagon) put ∙ here.wagon;
          begun = ap (λ (t : Journey). is_unknown t.events) put ∙ begun;
        }

        entry_by : (q : ℕ) (b : Bool) → nat_eq w q ≡ b → IfSome (cond b (Some k) (lookup (nat_eq q) before)) (IsJourneyEntry q)
        entry_by q true same = subst (λ (v : ℕ). IsJourneyEntry v k) (eqb-true w q same) new_entry
        entry_by q false same = journeys q

        pub entries_there : AreJourneyEntries after
        entries_there q = subst (λ (o : Option Journey). IfSome o (IsJourneyEntry q)) (sym (written q)) (entry_by q (nat_eq w q) refl)

    -- the journey that was there has begun
    pub begun_there : AreJourneyEntries before → is_unknown j.events ≡ false
    begun_there journeys = (subst (λ (o : Option Journey). IfSome o (IsJourneyEntry w)) found (journeys w)).begun

    -- the same journey is written again, as where memory is refused
    pub kept_there : (k : Journey) → k ≡ j → (plans : List (ConsignmentId × Trip)) (units : List (UnitCode × Trip)) (offers : OfferTable) →
        table_state (record { wagons = (with_value_at wagons position k).entries; plans = plans; units = units; offers = offers }) ≡ table_state (record { wagons = before; plans = plans; units = units; offers = offers })
    kept_there k same plans units offers =
        known_there k (λ events. events) same plans units offers ∙
        (λ i. record (table_state (record { wagons = before; plans = plans; units = units; offers = offers })) { journey = λ q. either_way (w == q) (events_in before q) i })

-- a journey with an event more has begun
pub still_begun : (events : List Event) (e : Event) → is_unknown (events ++ e ∷ []) ≡ false
still_begun [] e = refl
still_begun (first ∷ events) e = refl

-- so has one beside which a state is kept
pub begun_beside : (events : List Event) (s : WagonState) → IsStateBefore events s → is_unknown (without_newest events) ≡ false
begun_beside events s is = begun_by (without_newest events) is.track.planned
  where
    begun_by : (before : List Event) → is_some (first_plan before) ≡ true → is_unknown before ≡ false
    begun_by [] planned = absurd (true≢false (sym planned))
    begun_by (e ∷ earlier) planned = refl

-- a table into which entries are put one after another
module _ {K V S : Type 0} (eq : K → K → Bool) (before table next : IndexMap K V S) (all items rest : List (K × V)) (key : K) (value : V) (steps : items ≡ (key, value) ∷ rest) where
  pub entered_more : next.entries ≡ insert_entry eq table.entries key value → insert_all eq table.entries items ≡ insert_all eq before.entries all → insert_all eq next.entries rest ≡ insert_all eq before.entries all
  entered_more entry h =
      ap (λ (es : List (K × V)). insert_all eq es rest) entry ∙ ap (λ (xs : List (K × V)). insert_all eq table.entries xs) (sym steps) ∙ h

  pub values_more : ((q : K) → get eq next q ≡ cond (eq key q) (Some value) (get eq table q)) → ((q : K) → update_all eq (get eq table) items q ≡ update_all eq (get eq before) all q) →
      (q : K) → update_all eq (get eq next) rest q ≡ update_all eq (get eq before) all q
  values_more updates h q =
      ap (λ (f : K → Option V). update_all eq f rest q) (λ i k. updates k i) ∙ ap (λ (xs : List (K × V)). update_all eq (get eq table) xs q) (sym steps) ∙ h q
