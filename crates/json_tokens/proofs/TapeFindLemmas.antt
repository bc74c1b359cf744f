-- What is found on a tape is what is found in the data that it stands for.
use Rattle.json_tokens.proofs.Common.{◌≡◌, ℕ, ◌≤◌, Bool, true, false, cond, List, [], ◌∷◌, ◌++◌, Option, Some, None, MatchOption, IfNone, is_some, option_map, option_and_then, unwrap_or, bytes_eq, refl, sym, ap, subst, ◌∙◌, arith, true≢false, bytes_eq-Decides, Token, BeginsWith, InItems, InMembers, NextItem, Finds, not_found, Some_inj, opened, value-json_tokens_back, Num, Data, null, number, array, object, Items, no_items, item, Members, no_members, put, number_of, of_json, of_items, of_members, max_depth, get_member-put, get_member-put_other, first_data, first_items, tape_data, tape_items}
use Rattle.json.specs.Token as token
use Rattle.json.specs.Json as json
use Rattle.json.specs.Find as found
use Rattle.json.specs.Tree as tree
use Rattle.serde_json.specs.Find as find
use Rattle.json_tokens.proofs.FlatLemmas as flat
use Rattle.json_tokens.proofs.TapeReadLemmas.{Stands, stands, stands_first, there, items_first}

-- ---- parts of what is read

then_read : {A B : Type 0} (o : Option A) (f : A → Option B) (b : B) → option_and_then f o ≡ Some b → (a : A) × (o ≡ Some a) × (f a ≡ Some b)
then_read None f b e = not_found b e
then_read (Some a) f b e = (a, refl, e)

map_read : {A B : Type 0} (f : A → B) (o : Option A) (b : B) → option_map f o ≡ Some b → (a : A) × (o ≡ Some a) × (f a ≡ b)
map_read f None b e = not_found b e
map_read f (Some a) b e = (a, refl, Some_inj (f a) b e)

-- nothing is found where a value of another kind stands
nothing : {A B : Type 0} (look : Data → Option B) (f : A → Data) → ((a : A) → look (f a) ≡ None) → (o : Option A) → option_and_then look (option_map f o) ≡ None
nothing look f h None = refl
nothing look f h (Some a) = h a

-- what is looked up in the data is looked up in what a value is read as
looked_up : {B : Type 0} (look : Data → Option B) (j : json.Json) (d : Data) → of_json j ≡ Some d → look d ≡ option_and_then look (of_json j)
looked_up look j d h = ap (option_and_then look) (sym h)

value_at : (ts : List Token) → is_some (first_data ts) ≡ true → (j : json.Json) × Stands ts j (tape_data ts)
value_at ts h = stands ts (tape_data ts) (there (first_data ts) null h)

-- ---- texts, numbers and null

text_read : (j : json.Json) → option_and_then find.as_str (of_json j) ≡ found.as_str j
text_read json.null = refl
text_read (json.boolean b) = refl
text_read (json.number s) = nothing find.as_str number (λ n. refl) (number_of s)
text_read (json.string s) = refl
text_read (json.array js) = nothing find.as_str array (λ ds. refl) (of_items js)
text_read (json.object ms) = nothing find.as_str object (λ es. refl) (of_members ms no_members)

pub text_found : (ts : List Token) (r : Option (List ℕ)) → is_some (first_data ts) ≡ true → ((j : json.Json) → BeginsWith ts j → r ≡ found.as_str j) → r ≡ find.as_str (tape_data ts)
text_found ts r h looks =
    let s = value_at ts h in
    looks s.0 s.1.0 ∙ sym (looked_up find.as_str s.0 (tape_data ts) s.1.1 ∙ text_read s.0)

same_number : (o : Option Num) → option_and_then find.as_number (option_map number o) ≡ o
same_number None = refl
same_number (Some n) = refl

number_read : (j : json.Json) → option_and_then find.as_number (of_json j) ≡ option_and_then number_of (found.as_number j)
number_read json.null = refl
number_read (json.boolean b) = refl
number_read (json.number s) = same_number (number_of s)
number_read (json.string s) = refl
number_read (json.array js) = nothing find.as_number array (λ ds. refl) (of_items js)
number_read (json.object ms) = nothing find.as_number object (λ es. refl) (of_members ms no_members)

pub number_found : (ts : List Token) (r : Option (List ℕ)) → is_some (first_data ts) ≡ true → ((j : json.Json) → BeginsWith ts j → r ≡ found.as_number j) →
    option_and_then find.as_u64 (option_and_then number_of r) ≡ option_and_then find.as_u64 (find.as_number (tape_data ts))
number_found ts r h looks =
    let s = value_at ts h in
    ap (option_and_then find.as_u64) (ap (option_and_then number_of) (looks s.0 s.1.0) ∙ sym (looked_up find.as_number s.0 (tape_data ts) s.1.1 ∙ number_read s.0))

null_read : (j : json.Json) → is_some (option_and_then find.as_null (of_json j)) ≡ found.is_null j
null_read json.null = refl
null_read (json.boolean b) = refl
null_read (json.number s) = ap is_some (nothing find.as_null number (λ n. refl) (number_of s))
null_read (json.string s) = refl
null_read (json.array js) = ap is_some (nothing find.as_null array (λ ds. refl) (of_items js))
null_read (json.object ms) = ap is_some (nothing find.as_null object (λ es. refl) (of_members ms no_members))

pub null_found : (ts : List Token) (r : Bool) → is_some (first_data ts) ≡ true → ((j : json.Json) → BeginsWith ts j → r ≡ found.is_null j) → r ≡ is_some (find.as_null (tape_data ts))
null_found ts r h looks =
    let s = value_at ts h in
    looks s.0 s.1.0 ∙ sym (ap is_some (looked_up find.as_null s.0 (tape_data ts) s.1.1) ∙ null_read s.0)

-- ---- objects

no_object : (j : json.Json) → found.as_object j ≡ None → option_and_then find.as_object (of_json j) ≡ None
no_object json.null h = refl
no_object (json.boolean b) h = refl
no_object (json.number s) h = nothing find.as_object number (λ n. refl) (number_of s)
no_object (json.string s) h = refl
no_object (json.array js) h = nothing find.as_object array (λ ds. refl) (of_items js)
no_object (json.object ms) h = not_found ms (sym h)

an_object : (ms : json.Members) (d : Data) → of_json (json.object ms) ≡ Some d → is_some (find.as_object d) ≡ true
an_object ms d h = let es = map_read object (of_members ms no_members) d h in ap (λ e. is_some (find.as_object e)) (sym es.2)

-- members stand there
abbrev pub FoundMembers : json.Json → Option (List Token) → Type 0
FoundMembers j r = MatchOption r (found.as_object j ≡ None) (λ rest. (ms : json.Members) × (j ≡ json.object ms) × InMembers rest ms)

pub object_found : (ts : List Token) (r : Option (List Token)) → is_some (first_data ts) ≡ true → ((j : json.Json) → BeginsWith ts j → FoundMembers j r) → is_some r ≡ is_some (find.as_object (tape_data ts))
object_found ts None h looks =
    let s = value_at ts h in
    sym (ap is_some (looked_up find.as_object s.0 (tape_data ts) s.1.1 ∙ no_object s.0 (looks s.0 s.1.0)))
object_found ts (Some rest) h looks =
    let s = value_at ts h in
    let f = looks s.0 s.1.0 in
    sym (an_object f.0 (tape_data ts) (ap of_json (sym f.1) ∙ s.1.1))

-- the last member of that name, if there is one, is read as the data that is found
abbrev Later : ℕ → Option json.Json → Option Data → Option Data → Type 0
Later n None before now = now ≡ before
Later n (Some j) before now = (d : Data) × (of_json j ≡ Some d) × (now ≡ Some d) × (tree.depth j ≤ n)

module _ (name : List ℕ) (n : ℕ) where
  later : (k : List ℕ) (j : json.Json) (d : Data) (before now : Members) → of_json j ≡ Some d → tree.depth j ≤ n → (o : Option json.Json) →
      Later n o (find.get_member name (put k d before)) (find.get_member name now) → (b : Bool) → bytes_eq k name ≡ b →
      Later n (found.later_or o (cond b (Some j) None)) (find.get_member name before) (find.get_member name now)
  later k j d before now h deep (Some i) x b e = x
  later k j d before now h deep None x true e =
      let same = (bytes_eq-Decides k name).0 e in
      (d, h, x ∙ ap (λ q. find.get_member q (put k d before)) (sym same) ∙ get_member-put k d before, deep)
  later k j d before now h deep None x false e = x ∙ get_member-put_other name k d before (flat.apart k name e)

  member_read : (ms : json.Members) (before now : Members) → tree.members_depth ms ≤ n → of_members ms before ≡ Some now →
      Later n (found.get_member name ms) (find.get_member name before) (find.get_member name now)
  member_read json.no_members before now deep e = ap (option_and_then (find.get_member name)) (sym e)
  member_read (json.member k j ms) before now deep e =
      let p = then_read (of_json j) (λ d. of_members ms (put k d before)) now e in
      later k j p.0 before now p.1 (omega arith) (found.get_member name ms) (member_read ms (put k p.0 before) now (omega arith) p.2) (bytes_eq k name) refl

-- the value under a name
abbrev Got : Option json.Json → Option Data → Type 0
Got o now = Later max_depth o None now

got_member : (name : List ℕ) (ms : json.Members) (d : Data) → tree.depth (json.object ms) ≤ max_depth → of_json (json.object ms) ≡ Some d → Got (found.get name (json.object ms)) (find.get name d)
got_member name ms d deep h =
    let es = map_read object (of_members ms no_members) d h in
    subst (λ e. Got (found.get_member name ms) (find.get name e)) es.2 (member_read name max_depth ms no_members es.0 (omega arith) es.1)

got : (name : List ℕ) (j : json.Json) (d : Data) → tree.depth j ≤ max_depth → of_json j ≡ Some d → Got (found.get name j) (find.get name d)
got name json.null d deep h = looked_up (find.get name) json.null d h
got name (json.boolean b) d deep h = looked_up (find.get name) (json.boolean b) d h
got name (json.number s) d deep h = looked_up (find.get name) (json.number s) d h ∙ nothing (find.get name) number (λ n. refl) (number_of s)
got name (json.string s) d deep h = looked_up (find.get name) (json.string s) d h
got name (json.array js) d deep h = looked_up (find.get name) (json.array js) d h ∙ nothing (find.get name) array (λ ds. refl) (of_items js)
got name (json.object ms) d deep h = got_member name ms d deep h

-- what was found is read as the data
abbrev pub IsFound : Option (List Token) → Option Data → Type 0
IsFound None o = None ≡ o
IsFound (Some ts) o = (is_some (first_data ts) ≡ true) × (Some (tape_data ts) ≡ o)

first_found : (ts : List Token) (d : Data) (o : Option Data) → first_data ts ≡ Some d → o ≡ Some d → IsFound (Some ts) o
first_found ts d o h e = (ap is_some h, ap (λ p. Some (unwrap_or p null)) h ∙ sym e)

is_found : (r : Option (List Token)) (o : Option json.Json) (now : Option Data) → Finds r o → Got o now → IsFound r now
is_found None o now f g = sym (subst (λ p. Got p now) f g)
is_found (Some ts) o now f g =
    let q = subst (λ p. Got p now) f.1 g in
    first_found ts q.0 now (stands_first ts f.0 q.0 (f.2, q.1, q.3)) q.2

pub member_found : (ts : List Token) (name : List ℕ) (r : Option (List Token)) → is_some (first_data ts) ≡ true → ((j : json.Json) → BeginsWith ts j → Finds r (found.get name j)) → IsFound r (find.get name (tape_data ts))
member_found ts name r h looks =
    let s = value_at ts h in
    is_found r (found.get name s.0) (find.get name (tape_data ts)) (looks s.0 s.1.0) (got name s.0 (tape_data ts) s.1.2 s.1.1)

-- ---- lists

-- items stand there
abbrev pub FoundItems : json.Json → Option (List Token) → Type 0
FoundItems j r = MatchOption r (found.as_array j ≡ None) (λ rest. (js : json.Items) × (j ≡ json.array js) × InItems rest js)

no_array : (j : json.Json) → found.as_array j ≡ None → option_and_then find.as_array (of_json j) ≡ None
no_array json.null h = refl
no_array (json.boolean b) h = refl
no_array (json.number s) h = nothing find.as_array number (λ n. refl) (number_of s)
no_array (json.string s) h = refl
no_array (json.array js) h = not_found js (sym h)
no_array (json.object ms) h = nothing find.as_array object (λ es. refl) (of_members ms no_members)

abbrev pub AreFound : Option (List Token) → Option Items → Type 0
AreFound None o = None ≡ o
AreFound (Some ts) o = (is_some (first_items ts) ≡ true) × (Some (tape_items ts) ≡ o)

items_read : (ts : List Token) (js : json.Items) (d : Data) → InItems ts js → of_json (json.array js) ≡ Some d → tree.depth (json.array js) ≤ max_depth → AreFound (Some ts) (find.as_array d)
items_read ts js d inside h deep =
    let ds = map_read array (of_items js) d h in
    let first = items_first ts js ds.0 inside ds.1 deep in
    (ap is_some first, ap (λ o. Some (unwrap_or o no_items)) first ∙ ap find.as_array ds.2)

pub items_found : (ts : List Token) (r : Option (List Token)) → is_some (first_data ts) ≡ true → ((j : json.Json) → BeginsWith ts j → FoundItems j r) → AreFound r (find.as_array (tape_data ts))
items_found ts None h looks =
    let s = value_at ts h in
    sym (looked_up find.as_array s.0 (tape_data ts) s.1.1 ∙ no_array s.0 (looks s.0 s.1.0))
items_found ts (Some rest) h looks =
    let s = value_at ts h in
    let f = looks s.0 s.1.0 in
    items_read rest f.0 (tape_data ts) f.2 (ap of_json (sym f.1) ∙ s.1.1) (subst (λ j. tree.depth j ≤ max_depth) f.1 s.1.2)

-- the items that are left are read as these
abbrev Left : List Token → json.Items → Items → Type 0
Left ts js ds = InItems ts js × (of_items js ≡ Some ds) × (tree.depth (json.array js) ≤ max_depth)

left_in : (ts : List Token) (js : json.Items) (d : Data) (ds : Items) → Stands (token.begin_array ∷ ts) (json.array js) d → find.as_array d ≡ Some ds → Left ts js ds
left_in ts js d ds s e =
    let es = map_read array (of_items js) d s.1 in
    let same : es.0 ≡ ds = Some_inj es.0 ds (ap find.as_array es.2 ∙ e) in
    (opened (token.begin_array ∷ ts) (json.array js) s.0, es.1 ∙ ap Some same, s.2)

abbrev opens_list : List Token → Bool
opens_list [] = false
opens_list (token.begin_array ∷ ts) = true
opens_list (_ ∷ ts) = false

a_list : (ts rest : List Token) (j : json.Json) → token.begin_array ∷ ts ≡ tree.json_tokens j ++ rest → (js : json.Items) × (j ≡ json.array js)
a_list ts rest json.null e = absurd (true≢false (ap opens_list e))
a_list ts rest (json.boolean b) e = absurd (true≢false (ap opens_list e))
a_list ts rest (json.number s) e = absurd (true≢false (ap opens_list e))
a_list ts rest (json.string s) e = absurd (true≢false (ap opens_list e))
a_list ts rest (json.array js) e = (js, refl)
a_list ts rest (json.object ms) e = absurd (true≢false (ap opens_list e))

left : (ts : List Token) → is_some (first_items ts) ≡ true → (js : json.Items) × Left ts js (tape_items ts)
left ts h =
    let p = then_read (first_data (token.begin_array ∷ ts)) find.as_array (tape_items ts) (there (first_items ts) no_items h) in
    let s = stands (token.begin_array ∷ ts) p.0 p.1 in
    let a = a_list ts s.1.0.1 s.0 (value-json_tokens_back s.1.0.0 (token.begin_array ∷ ts) s.1.0.1 s.0 s.1.0.2) in
    (a.0, left_in ts a.0 p.0 (tape_items ts) (subst (λ j. Stands (token.begin_array ∷ ts) j p.0) a.1 s.1) p.2)

-- an item is taken, or none is left
abbrev pub IsTaken : List Token → Option (List Token) → List Token → Type 0
IsTaken old None new = tape_items old ≡ no_items
IsTaken old (Some ts) new = (is_some (first_data ts) ≡ true) × (is_some (first_items new) ≡ true) × (tape_items old ≡ item (tape_data ts) (tape_items new))

one_taken : (old ts new : List Token) (j : json.Json) (rest : json.Items) (ds : Items) → tape_items old ≡ ds → of_items (json.item j rest) ≡ Some ds → tree.depth (json.array (json.item j rest)) ≤ max_depth →
    BeginsWith ts j → InItems new rest → IsTaken old (Some ts) new
one_taken old ts new j rest ds is h deep begins inside =
    let p = then_read (of_json j) (λ d. option_map (item d) (of_items rest)) ds h in
    let q = map_read (item p.0) (of_items rest) ds p.2 in
    let first = stands_first ts j p.0 (begins, p.1, omega arith) in
    let others = items_first new rest q.0 inside q.1 (omega arith) in
    let said : item p.0 q.0 ≡ item (tape_data ts) (tape_items new) =
    ap (λ o. item (unwrap_or o null) q.0) (sym first) ∙ ap (λ o. item (tape_data ts) (unwrap_or o no_items)) (sym others) in
    (ap is_some first, ap is_some others, is ∙ sym q.2 ∙ said)

taken_at : (old new : List Token) (r : Option (List Token)) (js : json.Items) → Left old js (tape_items old) → NextItem old r new → IsTaken old r new
taken_at old new None js l next =
    let none = next js l.0 in
    sym (Some_inj no_items (tape_items old) (ap of_items (sym none) ∙ l.1))
taken_at old new (Some ts) js l next =
    let n = next js l.0 in
    one_taken old ts new n.0 n.1 (tape_items old) refl (ap of_items (sym n.2) ∙ l.1) (subst (λ is. tree.depth (json.array is) ≤ max_depth) n.2 l.2) n.3 n.4

pub item_taken : (old new : List Token) (r : Option (List Token)) → is_some (first_items old) ≡ true → NextItem old r new → IsTaken old r new
item_taken old new r h next = let l = left old h in taken_at old new r l.0 l.1 next

-- where none is left, all stays
pub still_read : (old new : List Token) (r : Option (List Token)) → is_some (first_items old) ≡ true → NextItem old r new → IfNone r (new ≡ old) → is_some (first_items new) ≡ true
still_read old new None h next stays = ap (λ ts. is_some (first_items ts)) stays ∙ h
still_read old new (Some ts) h next stays = (item_taken old new (Some ts) h next).1
