-- Lists of what is shown.
use Rattle.wimo.proofs.Common.{◌≡◌, ℕ, ◌+◌, ◌<◌, ◌==◌, zero, suc, Bool, true, false, cond, List, [], ◌∷◌, ◌++◌, length, get_or, take, map, filter, Option, Some, None, refl, ap, sym, ◌∙◌, append_assoc, arith, add-one, filter_map, option_to_list, range_with_len, cons_option, map-append, filter_map-append, filter_more, UnitCode, UnitLoad, RecordEvent, EstimateAt, Event, HaveRoom, index_after, record_event, record_events, units_among}

-- an estimate of leg j
abbrev pub at_leg : ℕ → ℕ → EstimateAt
at_leg j at = record { leg = j; at = at }

range_from : (a n m : ℕ) → a + n ≡ m → range_with_len a (n + 1) ≡ range_with_len a n ++ m ∷ []
range_from a zero m h = ap (λ k. k ∷ []) (omega arith)
range_from a (suc n) m h = rw add-one (ap (λ l. a ∷ l) (sym (ap (range_with_len (a + 1)) (add-one n)) ∙ range_from (a + 1) n m (omega arith)))

filter_map-last : {X : Type 0} (o : Option X) → cons_option o [] ≡ option_to_list o
filter_map-last None = refl
filter_map-last (Some x) = refl

-- what is found of one number more
pub found_more : {X : Type 0} (f : ℕ → Option X) (n : ℕ) (before after : List X) (o : Option X) → before ≡ filter_map f (range_with_len 0 n) → after ≡ before ++ option_to_list o → f n ≡ o →
    after ≡ filter_map f (range_with_len 0 (n + 1))
found_more f n before after o h k e =
    let one = ap (λ x. cons_option x []) e ∙ filter_map-last o in
    k ∙ ap (λ l. l ++ option_to_list o) h ∙ ap (λ l. filter_map f (range_with_len 0 n) ++ l) (sym one) ∙
    sym (filter_map-append f (range_with_len 0 n) (n ∷ [])) ∙ ap (filter_map f) (sym (range_from 0 n n (omega arith)))

-- ---- one event more

-- what is shown with it
pub shown_more : (before after : List RecordEvent) (c n : ℕ) (e : Event) (rest : List Event) (all : List RecordEvent) → after ≡ before ++ record_event c e ∷ [] → n ≡ index_after c e.body →
    before ++ record_events c (e ∷ rest) ≡ all → after ++ record_events n rest ≡ all
shown_more before after c n e rest all here next whole =
    ap (λ (l : List RecordEvent). l ++ record_events n rest) here ∙ ap (λ (m : ℕ). (before ++ record_event c e ∷ []) ++ record_events m rest) next ∙
    append_assoc before (record_event c e ∷ []) (record_events (index_after c e.body) rest) ∙ whole

-- those behind it have room for their legs
pub room_more : (c n : ℕ) (e : Event) (rest : List Event) → n ≡ index_after c e.body → HaveRoom c (e ∷ rest) → HaveRoom n rest
room_more c n e rest next room = rw next room.1

-- ---- one load more

unit_if : (is_on : Bool) (load : UnitLoad) → cond is_on (load.unit ∷ []) [] ≡ map (λ l. l.unit) (cond is_on (load ∷ []) [])
unit_if true load = refl
unit_if false load = refl

-- the units on the wagon with it
pub units_more : (loads : List UnitLoad) (wagon i : ℕ) (load : UnitLoad) → i < length loads → load ≡ get_or loads i load → (before after : List UnitCode) → before ≡ units_among (take i loads) wagon →
    (is_on : Bool) → is_on ≡ (load.wagon == wagon) → after ≡ before ++ cond is_on (load.unit ∷ []) [] → after ≡ units_among (take (i + 1) loads) wagon
units_more loads wagon i load here is before after whole is_on test put =
    let units : List UnitLoad → List UnitCode = map (λ l. l.unit) in
    let picked : cond (load.wagon == wagon) (load.unit ∷ []) [] ≡ units (cond (load.wagon == wagon) (load ∷ []) []) = unit_if (load.wagon == wagon) load in
    put ∙ ap (λ l. l ++ cond is_on (load.unit ∷ []) []) whole ∙ ap (λ b. units_among (take i loads) wagon ++ cond b (load.unit ∷ []) []) test ∙ ap (λ l. units_among (take i loads) wagon ++ l) picked ∙
    sym (map-append (λ l. l.unit) (filter (λ l. l.wagon == wagon) (take i loads)) (cond (load.wagon == wagon) (load ∷ []) [])) ∙
    ap (λ l. units (filter (λ l. l.wagon == wagon) (take i loads) ++ cond (l.wagon == wagon) (l ∷ []) [])) is ∙ sym (ap units (filter_more (λ l. l.wagon == wagon) loads i load here))
