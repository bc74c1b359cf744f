-- Each call that is read keeps the limits of its parts.
use Rattle.reply_writer.proofs.Common.{◌≡◌, ℕ, List, Bool, true, false, Option, Some, None, Result, Ok, Err, is_some, ok_or, refl, ap, sym, ◌∙◌, subst, result_ok, if◌then◌else◌, Data, get, as_object, IsVehicleNumber, is_railway, is_name, is_unit_code, has_unit_form, field_name, Field, IsBetween, value_or_fault, field_of, call_read, RecordFault, BadJson, BadField}
use Rattle.serde_json.specs.Find.{as_str}
use Rattle.taf_codes.specs.Codes.{unit_of}
use Rattle.taf_codes.specs.declared.fault.UnitFault.{UnitFault}
use Rattle.taf_codes.specs.declared.fault.UnitFault.TheVariants.{NotAUnitCode, BadUnitDigit}
use Rattle.call_reader.specs.Values as value_of
use Rattle.call_reader.specs.Reading.{◌>>=◌, message_of, call_of_kind, kind_of, call_of}
use Rattle.call_reader.proofs.KeptLemmas as values
use Rattle.call_reader.proofs.KeptLemmas.{same_value}
use Rattle.call_reader.proofs.SentLemmas.{sent_kept}
use Rattle.taf_messages.specs.declared.field.Field.TheVariants as field
use Rattle.taf_messages.specs.declared.kind.Kind.{Kind}
use Rattle.taf_messages.specs.declared.kind.Kind.TheVariants as kinds
use Rattle.taf_messages.specs.declared.call.Call.{Call}
use Rattle.taf_messages.specs.declared.call.Call.TheVariants as calls
use Rattle.reply_writer.specs.Laws.{IsCall}

-- ---- what a result was read from

abbrev value_or : {A : Type 0} → A → Result A RecordFault → A
value_or a (Ok x) = x
value_or a (Err e) = a

abbrev fine : {A : Type 0} → A → Result A RecordFault
fine x = Ok x

same_ok : {A : Type 0} (x y : A) → fine x ≡ fine y → x ≡ y
same_ok x y e = ap (value_or x) e

abbrev Given : {A B : Type 0} → Result A RecordFault → (A → Result B RecordFault) → B → Type 0
Given {A} r f y = (x : A) × (r ≡ Ok x) × (f x ≡ Ok y)

given : {A B : Type 0} (r : Result A RecordFault) (f : A → Result B RecordFault) (y : B) → (r >>= f) ≡ Ok y → Given r f y
given (Ok x) f y h = (x, refl, h)
given (Err e) f y h = absurd (cc)

was_good : {X : Type 0} (o : Option X) (name : Field) (x : X) → ok_or o (BadField name) ≡ Ok x → o ≡ Some x
was_good None name x h = absurd (cc)
was_good (Some y) name x h = ap Some (same_ok y x h)

was_there : {X : Type 0} (reads : Data → Option X) (name : Field) (o : Option Data) (x : X) → value_or_fault reads name o ≡ Ok x → (d : Data) × (reads d ≡ Some x)
was_there reads name None x h = absurd (cc)
was_there reads name (Some d) x h = (d, was_good (reads d) name x h)

-- what each good value keeps, a field's value keeps
field_kept : {X : Type 0} (reads : Data → Option X) (P : X → Type 0) → ((e : Data) (x : X) → reads e ≡ Some x → P x) → (name : Field) (d : Data) (x : X) → field_of reads name d ≡ Ok x → P x
field_kept reads P h name d x e = let p = was_there reads name (get (field_name name) d) x e in h p.0 x p.1

-- ---- fields

railway_field : (d : Data) (by : List ℕ) → field_of value_of.railway field.From d ≡ Ok by → is_railway by ≡ true
railway_field = field_kept value_of.railway (λ by. is_railway by ≡ true) values.railway_kept field.From

wagon_field : (d : Data) (w : ℕ) → field_of value_of.wagon field.Wagon d ≡ Ok w → IsVehicleNumber w
wagon_field = field_kept value_of.wagon IsVehicleNumber values.wagon_kept field.Wagon

name_field : (d : Data) (name : List ℕ) → field_of value_of.consignment field.Consignment d ≡ Ok name → is_name name ≡ true
name_field = field_kept value_of.consignment (λ name. is_name name ≡ true) values.name_kept field.Consignment

number_field : (low high : ℕ) (name : Field) (d : Data) (n : ℕ) → field_of (value_of.number low high) name d ≡ Ok n → IsBetween low high n
number_field low high = field_kept (value_of.number low high) (IsBetween low high) (values.number_kept low high)

if_unit : (b c : Bool) (bytes text : List ℕ) → result_ok {T = List ℕ} {E = UnitFault} (if b then Ok bytes else if c then Err BadUnitDigit else Err NotAUnitCode) ≡ Some text → (b ≡ true) × (bytes ≡ text)
if_unit true c bytes text h = (refl, same_value bytes text h)
if_unit false true bytes text h = absurd (cc)
if_unit false false bytes text h = absurd (cc)

unit_kept : (d : Data) (unit : List ℕ) → value_of.unit d ≡ Some unit → is_unit_code unit ≡ true
unit_kept d unit h =
    let p = values.given (as_str d) (λ bytes. result_ok (unit_of bytes)) unit h in
    let q = if_unit (is_unit_code p.0) (has_unit_form p.0) p.0 unit p.2 in
    subst (λ t. is_unit_code t ≡ true) q.1 q.0

unit_field : (d : Data) (unit : List ℕ) → field_of value_of.unit field.Unit d ≡ Ok unit → is_unit_code unit ≡ true
unit_field = field_kept value_of.unit (λ unit. is_unit_code unit ≡ true) unit_kept field.Unit

-- ---- calls

kind_kept : (kind : Kind) (d : Data) (call : Call) → call_of d ≡ Ok call → call_of_kind kind d ≡ Ok call → IsCall call
unfolding call_of_kind
kind_kept (kinds.Send name) d call whole h =
    let p = given (message_of name d) (λ m. Ok (calls.Send m)) call h in
    let same : calls.Send p.0 ≡ call = same_ok (calls.Send p.0) call p.2 in
    subst IsCall same (sent_kept d p.0 (whole ∙ ap fine (sym same)))
kind_kept kinds.Ask d call whole h =
    let by = given (field_of value_of.railway field.From d) _ call h in
    let w = given (field_of value_of.wagon field.Wagon d) (λ w. Ok (calls.Ask by.0 w)) call by.2 in
    subst IsCall (same_ok (calls.Ask by.0 w.0) call w.2) (railway_field d by.0 by.1, wagon_field d w.0 w.1)
kind_kept kinds.AskUnit d call whole h =
    let by = given (field_of value_of.railway field.From d) _ call h in
    let u = given (field_of value_of.unit field.Unit d) (λ u. Ok (calls.AskUnit by.0 u)) call by.2 in
    subst IsCall (same_ok (calls.AskUnit by.0 u.0) call u.2) (railway_field d by.0 by.1, unit_field d u.0 u.1)
kind_kept kinds.Deviation d call whole h =
    let by = given (field_of value_of.railway field.From d) _ call h in
    let n = given (field_of value_of.consignment field.Consignment d) (λ n. Ok (calls.Deviation by.0 n)) call by.2 in
    subst IsCall (same_ok (calls.Deviation by.0 n.0) call n.2) (railway_field d by.0 by.1, name_field d n.0 n.1)
kind_kept kinds.Fetch d call whole h =
    let by = given (field_of value_of.railway field.From d) _ call h in
    let n = given (field_of (value_of.number 1 50) field.Limit d) (λ n. Ok (calls.Fetch by.0 n)) call by.2 in
    subst IsCall (same_ok (calls.Fetch by.0 n.0) call n.2) (railway_field d by.0 by.1, number_field 1 50 field.Limit d n.0 n.1)
kind_kept kinds.Ack d call whole h =
    let by = given (field_of value_of.railway field.From d) _ call h in
    let n = given (field_of (value_of.number 0 999_999_999_999) field.Item d) (λ n. Ok (calls.Ack by.0 n)) call by.2 in
    subst IsCall (same_ok (calls.Ack by.0 n.0) call n.2) (railway_field d by.0 by.1, number_field 0 999_999_999_999 field.Item d n.0 n.1)

if_object : (b : Bool) (r : Result Call RecordFault) (call : Call) → (if b then r else Err BadJson) ≡ Ok call → r ≡ Ok call
if_object true r call h = h
if_object false r call h = absurd (cc)

data_kept : (d : Data) (call : Call) → call_of d ≡ Ok call → IsCall call
unfolding call_of
data_kept d call h =
    let p = given (kind_of d) (λ kind. call_of_kind kind d) call (if_object (is_some (as_object d)) _ call h) in
    kind_kept p.0 d call h p.2

-- what a line's JSON is read as
pub call_kept : (o : Option Data) (call : Call) → call_read o ≡ Ok call → IsCall call
call_kept None call h = absurd (cc)
call_kept (Some d) call h = data_kept d call h
