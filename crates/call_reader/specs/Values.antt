-- Which values are good for a field, and what they are read as.
use Rattle.std.specs.Prelude.{◌≡◌, ℕ, ◌&&◌, List, [], ◌∷◌, length, Option, Some, None, Result, Ok, Err, Vec, nat_le, codes, if◌then◌else◌, option_and_then}
use Rattle.std.specs.Result.{result_ok}
use Rattle.std.specs.Str.{bytes_eq}
use Rattle.std.specs.declared.alloc.Global.{Global}
use Rattle.serde_json.specs.Data.{Data, Items, no_items, item}
use Rattle.serde_json.specs.Find.{get, as_str, as_number, as_u64, as_array}
use Rattle.wagon_number.specs.Digits.{number_of}
use Rattle.taf_codes.specs.Codes.{railway_of, place_code_of, consignment_of, train_of, unit_of}
use Rattle.taf_moment.specs.Calendar.{moment_of}
use Rattle.trip_plan.specs.declared.parts.Load.{Load}
use Rattle.trip_plan.specs.declared.parts.Load.TheVariants.{Loaded, Empty}
use Rattle.trip_plan.specs.declared.parts.Leg.{Leg}
use Rattle.trip_plan.specs.declared.parts.UnitLoad.{UnitLoad}
use Rattle.taf_messages.specs.Names.{field_name}
use Rattle.taf_messages.specs.Limits.{may_be_offered}
use Rattle.taf_messages.specs.declared.field.Field.{Field}
use Rattle.taf_messages.specs.declared.field.Field.TheVariants as fields
use Rattle.call_reader.specs.declared.value.DecodeError.{DecodeError}
use Rattle.call_reader.specs.declared.value.DecodeError.TheVariants.{Bad, Memory}

infixl 10 ◌>>=◌
abbrev pub ◌>>=◌ : {A B : Type 0} → Option A → (A → Option B) → Option B
None >>= f = None
(Some x) >>= f = f x

-- what a function returned, seen by view, is what the value is read as, unless memory was refused
abbrev pub Misses : {Y : Type 0} → DecodeError → Option Y → Type 0
Misses Memory good = Unit {0}
Misses Bad good = good ≡ None

abbrev pub ReadsAs : {X Y : Type 0} → (X → Y) → Result X DecodeError → Option Y → Type 0
ReadsAs view (Ok x) good = good ≡ Some (view x)
ReadsAs view (Err e) good = Misses e good

abbrev pub Reads : {X : Type 0} → Result X DecodeError → Option X → Type 0
Reads = ReadsAs (λ x. x)

abbrev pub ReadsList : {X : Type 0} → Result (Vec X Global) DecodeError → Option (List X) → Type 0
ReadsList = ReadsAs (λ v. v.items)

-- ---- texts and numbers

abbrev pub text : {X E : Type 0} → (List ℕ → Result X E) → Data → Option X
text reads d = do
  bytes ← as_str d
  result_ok (reads bytes)

abbrev pub railway : Data → Option (List ℕ)
railway = text railway_of

abbrev pub place : Data → Option (List ℕ)
place = text place_code_of

abbrev pub consignment : Data → Option (List ℕ)
consignment = text consignment_of

abbrev pub train : Data → Option (List ℕ)
train = text train_of

abbrev pub unit : Data → Option (List ℕ)
unit = text unit_of

abbrev pub moment : Data → Option ℕ
moment = text moment_of

abbrev pub wagon : Data → Option ℕ
wagon = text number_of

-- a number that was read as a whole one, within its limits
abbrev pub number : ℕ → ℕ → Data → Option ℕ
number low high d = do
  n ← option_and_then as_u64 (as_number d)
  if nat_le low n && nat_le n high then Some n else None

abbrev pub load_named : List ℕ → Option Load
load_named name = if bytes_eq name (codes "loaded") then Some Loaded else (if bytes_eq name (codes "empty") then Some Empty else None)

abbrev pub load : Data → Option Load
load d = do
  name ← as_str d
  load_named name

-- ---- objects and lists

abbrev pub member : {X : Type 0} → (Data → Option X) → Field → Data → Option X
member good field d = do
  found ← get (field_name field) d
  good found

-- the minutes of a leg are tested with the plan
unfoldable pub leg : Data → Option Leg
leg d = do
  ru ← member railway fields.Ru d
  origin ← member place fields.Origin d
  target ← member place fields.Target d
  minutes ← member (number 0 4_294_967_295) fields.Minutes d
  Some (record { ru = ru; origin = origin; target = target; minutes = minutes })

unfoldable pub unit_load : Data → Option UnitLoad
unit_load d = do
  loaded ← member unit fields.Unit d
  on ← member wagon fields.Wagon d
  Some (record { unit = loaded; wagon = on })

-- each item is good
unfoldable pub each : {X : Type 0} → (Data → Option X) → Items → Option (List X)
each good no_items = Some []
each good (item d ds) = do
  first ← good d
  others ← each good ds
  Some (first ∷ others)

abbrev pub list : {X : Type 0} → (Data → Option X) → Data → Option (List X)
list good d = do
  items ← as_array d
  each good items

-- a list with so many items at most
abbrev pub short_list : {X : Type 0} → ℕ → (Data → Option X) → Data → Option (List X)
short_list most good d = do
  items ← list good d
  if nat_le (length items) most then Some items else None

-- the wagons of an answer
abbrev pub wagons : Data → Option (List ℕ)
wagons = short_list 60 wagon

-- the wagons of an offer
abbrev pub offered_wagons : Data → Option (List ℕ)
offered_wagons d = do
  items ← list wagon d
  if may_be_offered items then Some items else None

-- the intermodal units of a plan
abbrev pub unit_loads : Data → Option (List UnitLoad)
unit_loads = short_list 120 unit_load
