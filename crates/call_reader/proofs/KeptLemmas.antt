-- Each message that is read keeps the limits of its parts.
use Rattle.call_reader.proofs.Common.{◌≡◌, ℕ, ◌≤◌, List, [], ◌∷◌, length, Bool, true, false, Option, Some, None, Result, Ok, Err, All, option_and_then, refl, ap, ◌∙◌, subst, leb-true, if◌then◌else◌, nat_le, ◌&&◌, result_ok, and_parts, All-nil, All-cons, Data, Items, no_items, item, as_str, as_number, as_u64, as_array, IsVehicleNumber, number_of, last_minute, moment_of, is_railway, is_place, is_name, is_unit_code, has_unit_form, code_of, unit_of, BadCode, UnitFault, NotAUnitCode, BadUnitDigit, Leg, UnitLoad, ◌>>=◌, each, leg, unit_load, member, list, short_list, IsBetween, IsLeg, IsUnitLoad, may_be_offered, Field}
use Rattle.wagon_number.proofs.TextLemmas as numbers
use Rattle.taf_moment.proofs.TextLemmas as moments
use Rattle.call_reader.specs.Values as good
use Rattle.taf_messages.specs.declared.field.Field.TheVariants as fields

-- ---- what a value was read from

abbrev pick : {A : Type 0} → A → Option A → A
pick a None = a
pick a (Some b) = b

pub same_value : {A : Type 0} (x y : A) → Some x ≡ Some y → x ≡ y
same_value x y e = ap (pick x) e

abbrev pub Given : {A B : Type 0} → Option A → (A → Option B) → B → Type 0
Given {A} o f y = (x : A) × (o ≡ Some x) × (f x ≡ Some y)

pub given : {A B : Type 0} (o : Option A) (f : A → Option B) (y : B) → (o >>= f) ≡ Some y → Given o f y
given None f y h = absurd (cc)
given (Some x) f y h = (x, refl, h)

was_ok : {A E : Type 0} (r : Result A E) (x : A) → result_ok r ≡ Some x → r ≡ Ok x
was_ok (Ok y) x h = ap Ok (same_value y x h)
was_ok (Err e) x h = absurd (cc)

-- a test that was passed
if_passed : {X : Type 0} (b : Bool) (x y : X) → (if b then Some x else None) ≡ Some y → (b ≡ true) × (x ≡ y)
if_passed true x y h = (refl, same_value x y h)
if_passed false x y h = absurd (cc)

if_code : (b : Bool) (bytes text : List ℕ) → result_ok {T = List ℕ} {E = BadCode} (if b then Ok bytes else Err (record {})) ≡ Some text → (b ≡ true) × (bytes ≡ text)
if_code true bytes text h = (refl, same_value bytes text h)
if_code false bytes text h = absurd (cc)

if_unit : (b c : Bool) (bytes text : List ℕ) → result_ok {T = List ℕ} {E = UnitFault} (if b then Ok bytes else if c then Err BadUnitDigit else Err NotAUnitCode) ≡ Some text → (b ≡ true) × (bytes ≡ text)
if_unit true c bytes text h = (refl, same_value bytes text h)
if_unit false true bytes text h = absurd (cc)
if_unit false false bytes text h = absurd (cc)

-- ---- texts and numbers

code_kept : (is_code : List ℕ → Bool) (d : Data) (text : List ℕ) → good.text (code_of is_code) d ≡ Some text → is_code text ≡ true
code_kept is_code d text h =
    let p = given (as_str d) (λ bytes. result_ok (code_of is_code bytes)) text h in
    let q = if_code (is_code p.0) p.0 text p.2 in
    subst (λ t. is_code t ≡ true) q.1 q.0

pub railway_kept : (d : Data) (by : List ℕ) → good.railway d ≡ Some by → is_railway by ≡ true
railway_kept = code_kept is_railway

pub place_kept : (d : Data) (place : List ℕ) → good.place d ≡ Some place → is_place place ≡ true
place_kept = code_kept is_place

pub name_kept : (d : Data) (name : List ℕ) → good.consignment d ≡ Some name → is_name name ≡ true
name_kept = code_kept is_name

unit_kept : (d : Data) (unit : List ℕ) → good.unit d ≡ Some unit → is_unit_code unit ≡ true
unit_kept d unit h =
    let p = given (as_str d) (λ bytes. result_ok (unit_of bytes)) unit h in
    let q = if_unit (is_unit_code p.0) (has_unit_form p.0) p.0 unit p.2 in
    subst (λ t. is_unit_code t ≡ true) q.1 q.0

pub wagon_kept : (d : Data) (w : ℕ) → good.wagon d ≡ Some w → IsVehicleNumber w
wagon_kept d w h =
    let p = given (as_str d) (λ bytes. result_ok (number_of bytes)) w h in
    (numbers.reading_is_exact p.0 w (was_ok (number_of p.0) w p.2)).0

pub moment_kept : (d : Data) (m : ℕ) → good.moment d ≡ Some m → m ≤ last_minute
moment_kept d m h =
    let p = given (as_str d) (λ bytes. result_ok (moment_of bytes)) m h in
    (moments.reading_is_exact p.0 m (was_ok (moment_of p.0) m p.2)).0

pub number_kept : (low high : ℕ) (d : Data) (n : ℕ) → good.number low high d ≡ Some n → IsBetween low high n
number_kept low high d n h =
    let p = given (option_and_then as_u64 (as_number d)) (λ k. if nat_le low k && nat_le k high then Some k else None) n h in
    let q = if_passed (nat_le low p.0 && nat_le p.0 high) p.0 n p.2 in
    let r = and_parts (nat_le low p.0) (nat_le p.0 high) q.0 in
    subst (IsBetween low high) q.1 (record { least = leb-true low p.0 r.0; most = leb-true p.0 high r.1 })

-- ---- objects and lists

member_kept : {X : Type 0} (reads : Data → Option X) (P : X → Type 0) → ((e : Data) (x : X) → reads e ≡ Some x → P x) → (name : Field) (d : Data) (x : X) → member reads name d ≡ Some x → P x
member_kept reads P h name d x e = let p = given _ reads x e in h p.0 x p.2

leg_kept : (d : Data) (l : Leg) → leg d ≡ Some l → IsLeg l
unfolding leg
leg_kept d l h =
    let ru = given (member good.railway fields.Ru d) _ l h in
    let origin = given (member good.place fields.Origin d) _ l ru.2 in
    let target = given (member good.place fields.Target d) _ l origin.2 in
    let minutes = given (member (good.number 0 4_294_967_295) fields.Minutes d) _ l target.2 in
    let within = member_kept (good.number 0 4_294_967_295) (IsBetween 0 4_294_967_295) (number_kept 0 4_294_967_295) fields.Minutes d minutes.0 minutes.1 in
    let one : IsLeg (record { ru = ru.0; origin = origin.0; target = target.0; minutes = minutes.0 }) = record {
      ru = member_kept good.railway (λ t. is_railway t ≡ true) railway_kept fields.Ru d ru.0 ru.1;
      origin = member_kept good.place (λ t. is_place t ≡ true) place_kept fields.Origin d origin.0 origin.1;
      target = member_kept good.place (λ t. is_place t ≡ true) place_kept fields.Target d target.0 target.1;
      minutes = within.most;
    } in
    subst IsLeg (same_value _ l minutes.2) one

unit_load_kept : (d : Data) (u : UnitLoad) → unit_load d ≡ Some u → IsUnitLoad u
unfolding unit_load
unit_load_kept d u h =
    let unit = given (member good.unit fields.Unit d) _ u h in
    let wagon = given (member good.wagon fields.Wagon d) _ u unit.2 in
    let one : IsUnitLoad (record { unit = unit.0; wagon = wagon.0 }) = record {
      unit = member_kept good.unit (λ t. is_unit_code t ≡ true) unit_kept fields.Unit d unit.0 unit.1;
      wagon = member_kept good.wagon IsVehicleNumber wagon_kept fields.Wagon d wagon.0 wagon.1;
    } in
    subst IsUnitLoad (same_value _ u wagon.2) one

each_kept : {X : Type 0} (reads : Data → Option X) (P : X → Type 0) → ((d : Data) (x : X) → reads d ≡ Some x → P x) → (ds : Items) (xs : List X) → each reads ds ≡ Some xs → All P xs
unfolding each
each_kept {X} reads P h no_items xs e = subst (All P) (same_value [] xs e) (All-nil P)
each_kept {X} reads P h (item d ds) xs e =
    let p = given (reads d) _ xs e in
    let q = given (each reads ds) (λ (others : List X). Some (p.0 ∷ others)) xs p.2 in
    subst (All P) (same_value _ xs q.2) (All-cons P p.0 q.0 (h d p.0 p.1) (each_kept reads P h ds q.0 q.1))

list_kept : {X : Type 0} (reads : Data → Option X) (P : X → Type 0) → ((d : Data) (x : X) → reads d ≡ Some x → P x) → (d : Data) (xs : List X) → list reads d ≡ Some xs → All P xs
list_kept reads P h d xs e = let p = given (as_array d) (each reads) xs e in each_kept reads P h p.0 xs p.2

pub wagon_list_kept : (d : Data) (ws : List ℕ) → list good.wagon d ≡ Some ws → All IsVehicleNumber ws
wagon_list_kept = list_kept good.wagon IsVehicleNumber wagon_kept

pub leg_list_kept : (d : Data) (ls : List Leg) → list leg d ≡ Some ls → All IsLeg ls
leg_list_kept = list_kept leg IsLeg leg_kept

short_list_kept : {X : Type 0} (most : ℕ) (reads : Data → Option X) (P : X → Type 0) → ((d : Data) (x : X) → reads d ≡ Some x → P x) → (d : Data) (xs : List X) → short_list most reads d ≡ Some xs → All P xs × (length xs ≤ most)
short_list_kept {X} most reads P h d xs e =
    let p = given (list reads d) (λ (items : List X). if nat_le (length items) most then Some items else None) xs e in
    let q = if_passed (nat_le (length p.0) most) p.0 xs p.2 in
    (list_kept reads P h d xs (p.1 ∙ ap Some q.1), subst (λ (l : List X). length l ≤ most) q.1 (leb-true (length p.0) most q.0))

pub wagons_kept : (d : Data) (ws : List ℕ) → good.wagons d ≡ Some ws → All IsVehicleNumber ws × (length ws ≤ 60)
wagons_kept = short_list_kept 60 good.wagon IsVehicleNumber wagon_kept

pub units_kept : (d : Data) (us : List UnitLoad) → good.unit_loads d ≡ Some us → All IsUnitLoad us × (length us ≤ 120)
units_kept = short_list_kept 120 unit_load IsUnitLoad unit_load_kept

pub offered_wagons_kept : (d : Data) (ws : List ℕ) → good.offered_wagons d ≡ Some ws → All IsVehicleNumber ws × (may_be_offered ws ≡ true)
offered_wagons_kept d ws e =
    let p = given (list good.wagon d) (λ (items : List ℕ). if may_be_offered items then Some items else None) ws e in
    let q = if_passed (may_be_offered p.0) p.0 ws p.2 in
    (wagon_list_kept d ws (p.1 ∙ ap Some q.1), subst (λ l. may_be_offered l ≡ true) q.1 q.0)
