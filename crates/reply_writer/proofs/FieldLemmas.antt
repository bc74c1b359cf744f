-- What the fields of a message's tree are read as.
use Rattle.reply_writer.proofs.Common.{◌≡◌, ℕ, ◌≤◌, List, [], ◌∷◌, length, true, All, Option, Some, Ok, ok_or, refl, ap, ◌∙◌, arith, le-leb, map, result_ok, All-head, All-tail, Data, get, items_of, IsVehicleNumber, last_minute, is_railway, is_place, is_name, is_unit_code, Load, Loaded, Empty, Leg, UnitLoad, ◌>>=◌, leg, unit_load, each, member, IsBetween, IsLeg, IsUnitLoad, may_be_offered, field_name, field_of, value_or_fault, at_text, wagon_text, load_text, leg_fields, leg_data, unit_fields, unit_data, text, whole, list_of, Field, BadField}
use Rattle.wagon_number.proofs.TextLemmas as numbers
use Rattle.taf_moment.proofs.TextLemmas as moments
use Rattle.call_reader.specs.Values as value_of
use Rattle.taf_messages.specs.declared.field.Field.TheVariants as fields

-- ---- texts and numbers

pub railway_read : (by : List ℕ) → is_railway by ≡ true → value_of.railway (text by) ≡ Some by
railway_read by h = rw h refl

pub place_read : (place : List ℕ) → is_place place ≡ true → value_of.place (text place) ≡ Some place
place_read place h = rw h refl

pub consignment_read : (name : List ℕ) → is_name name ≡ true → value_of.consignment (text name) ≡ Some name
consignment_read name h = rw h refl

pub train_read : (name : List ℕ) → is_name name ≡ true → value_of.train (text name) ≡ Some name
train_read name h = rw h refl

pub unit_read : (unit : List ℕ) → is_unit_code unit ≡ true → value_of.unit (text unit) ≡ Some unit
unit_read unit h = rw h refl

pub wagon_read : (w : ℕ) → IsVehicleNumber w → value_of.wagon (wagon_text w) ≡ Some w
wagon_read w h = ap result_ok (numbers.text_is_read w h)

pub moment_read : (m : ℕ) → m ≤ last_minute → value_of.moment (at_text m) ≡ Some m
moment_read m h = ap result_ok (moments.text_is_read m h)

pub number_read : (low high n : ℕ) → IsBetween low high n → value_of.number low high (whole n) ≡ Some n
number_read low high n h = rw (le-leb low n h.least, le-leb n high h.most) refl

pub load_read : (load : Load) → value_of.load (load_text load) ≡ Some load
load_read Loaded = refl
load_read Empty = refl

-- ---- objects and lists

-- what is read after a value that was read
pub after : {A B : Type 0} (o : Option A) (x : A) (f : A → Option B) (y : Option B) → o ≡ Some x → f x ≡ y → (o >>= f) ≡ y
after o x f y p q = ap (λ v. v >>= f) p ∙ q

member_read : {X : Type 0} (reads : Data → Option X) (name : Field) (d e : Data) (x : X) → get (field_name name) d ≡ Some e → reads e ≡ Some x → member reads name d ≡ Some x
member_read reads name d e x p q = after (get (field_name name) d) e reads (Some x) p q

pub leg_read : (l : Leg) → IsLeg l → leg (leg_data l) ≡ Some l
unfolding leg leg_fields
leg_read l h =
    let d = leg_data l in
    let minutes = number_read 0 4_294_967_295 l.minutes (record { least = omega arith; most = h.minutes }) in
    after _ l.ru _ _ (member_read value_of.railway fields.Ru d (text l.ru) l.ru refl (railway_read l.ru h.ru))
    (after _ l.origin _ _ (member_read value_of.place fields.Origin d (text l.origin) l.origin refl (place_read l.origin h.origin))
    (after _ l.target _ _ (member_read value_of.place fields.Target d (text l.target) l.target refl (place_read l.target h.target))
    (after _ l.minutes _ _ (member_read (value_of.number 0 4_294_967_295) fields.Minutes d (whole l.minutes) l.minutes refl minutes) refl)))

pub unit_load_read : (u : UnitLoad) → IsUnitLoad u → unit_load (unit_data u) ≡ Some u
unfolding unit_load unit_fields
unit_load_read u h =
    let d = unit_data u in
    after _ u.unit _ _ (member_read value_of.unit fields.Unit d (text u.unit) u.unit refl (unit_read u.unit h.unit))
    (after _ u.wagon _ _ (member_read value_of.wagon fields.Wagon d (wagon_text u.wagon) u.wagon refl (wagon_read u.wagon h.wagon)) refl)

each_read : {X : Type 0} (reads : Data → Option X) (shape : X → Data) (P : X → Type 0) → ((x : X) → P x → reads (shape x) ≡ Some x) → (xs : List X) → All P xs → each reads (items_of (map shape xs)) ≡ Some xs
unfolding each
each_read reads shape P h [] all = refl
each_read reads shape P h (x ∷ xs) all =
    after _ x _ _ (h x (All-head P x xs all)) (after _ xs _ _ (each_read reads shape P h xs (All-tail P x xs all)) refl)

pub wagon_list_read : (ws : List ℕ) → All IsVehicleNumber ws → value_of.list value_of.wagon (list_of wagon_text ws) ≡ Some ws
wagon_list_read ws all = each_read value_of.wagon wagon_text IsVehicleNumber wagon_read ws all

pub leg_list_read : (ls : List Leg) → All IsLeg ls → value_of.list leg (list_of leg_data ls) ≡ Some ls
leg_list_read ls all = each_read leg leg_data IsLeg leg_read ls all

pub unit_list_read : (us : List UnitLoad) → All IsUnitLoad us → length us ≤ 120 → value_of.unit_loads (list_of unit_data us) ≡ Some us
unit_list_read us all few = after _ us _ _ (each_read unit_load unit_data IsUnitLoad unit_load_read us all) (rw (le-leb (length us) 120 few) refl)

pub wagons_read : (ws : List ℕ) → All IsVehicleNumber ws → length ws ≤ 60 → value_of.wagons (list_of wagon_text ws) ≡ Some ws
wagons_read ws all few = after _ ws _ _ (wagon_list_read ws all) (rw (le-leb (length ws) 60 few) refl)

pub offered_wagons_read : (ws : List ℕ) → All IsVehicleNumber ws → may_be_offered ws ≡ true → value_of.offered_wagons (list_of wagon_text ws) ≡ Some ws
offered_wagons_read ws all h = after _ ws _ _ (wagon_list_read ws all) (rw h refl)

-- ---- a record's field

pub good_field : {X : Type 0} (reads : Data → Option X) (name : Field) (d e : Data) (x : X) → get (field_name name) d ≡ Some e → reads e ≡ Some x → field_of reads name d ≡ Ok x
good_field reads name d e x p q = ap (value_or_fault reads name) p ∙ ap (λ o. ok_or o (BadField name)) q
